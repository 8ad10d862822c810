-- What answers a line. Definitions only.
use Rattle.std.specs.Prelude.{ℕ, ◌<◌, ◌≡◌, List, length, take}

-- by eleven bytes, for which so many bytes of the line, some, are enough
pub record Answering (kept : ℕ) (f : List ℕ → List ℕ) : Type 0 where
  pub some : 0 < kept
  pub each : (l : List ℕ) → length (f l) ≡ 11
  pub enough : (l : List ℕ) → f (take kept l) ≡ f l
