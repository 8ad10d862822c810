-- How many bytes a read brought, and the first of some bytes written, where it is known what the writer holds. Definitions only.
use Rattle.std.specs.Prelude.{ℕ, min, List, take, Option, Result, Ok, Err}
use Rattle.std.specs.Io.KnownBytes.{Appends}

-- none where the read failed, and no more than there was room for
abbrev pub brought : {E : Type 0} → Result ℕ E → ℕ → ℕ
brought (Ok n) most = min n most
brought (Err e) most = 0

-- the first of some bytes are added, however many those are
abbrev pub AppendsFront : Option (List ℕ) → Option (List ℕ) → List ℕ → Type 0
AppendsFront held held' bytes = (n : ℕ) × Appends held held' (take n bytes)
