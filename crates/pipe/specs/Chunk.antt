-- What is done with the bytes of a read, as far as a contract can speak of it: how much of them is answered at a time, and which line is then begun.
-- What is written of it says Written.antt. Definitions, and that a buffer of 65,536 bytes is a room.
use native.Mathlib.Omega.{arith}
use Rattle.std.specs.Prelude.{ℕ, ◌^◌, ◌≤◌, ◌<◌, ◌≡◌, List, length}
use Rattle.lines.specs.declared.Held.{Held}
use Rattle.lines.specs.Held.{after, front}

-- a space of so many bytes for answers: one has room, and as many bytes as a list can have
pub record Room (room : ℕ) : Type 0 where
  pub least : 11 ≤ room
  pub most : room < 2 ^ 63

pub a_buffer : Room 65536
a_buffer = record { least = omega arith; most = omega arith }

-- of the bytes that are left of a chunk a step answers those that have room for their answers, in a space of so many bytes
pub record Steps (room : ℕ) {n : ℕ} (s : Held n) (rest : List ℕ) (read : ℕ) (t : Held n) : Type 0 where
  pub read_is : read ≡ length (front room rest)
  pub lines : t ≡ after s (front room rest)
