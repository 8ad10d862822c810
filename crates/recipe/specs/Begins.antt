-- What a list of bytes begins with: some digits, or other bytes. Definitions only.
use Rattle.std.specs.Prelude.{ℕ, zero, suc, Bool, true, false, ◌&&◌, List, [], ◌∷◌, eqb}
use Rattle.frame.specs.Frame.{is_digit}

-- k digits
abbrev pub digits : ℕ → List ℕ → Bool
digits zero l = true
digits (suc k) [] = false
digits (suc k) (b ∷ l) = is_digit b && digits k l

abbrev pub begins : List ℕ → List ℕ → Bool
begins [] l = true
begins (c ∷ cs) [] = false
begins (c ∷ cs) (b ∷ l) = eqb b c && begins cs l
