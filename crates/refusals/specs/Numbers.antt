-- The number of each refusal. Definitions only.
use Rattle.std.specs.Prelude.{ℕ, zero, suc, List, [], ◌∷◌, get_or}
use Rattle.refusals.specs.declared.Refusal.{Refusal}
use Rattle.refusals.specs.declared.Refusal.TheVariants.{NotFinite, Zero, Negative, Outside, PowerOutside, NoSuchOperation, Malformed, NoRoom, Small, Lengths, Full, WornOut, TooLong, TooDeep, NotARecipe}

abbrev pub number_of : Refusal → ℕ
number_of NotFinite = 1
number_of Zero = 2
number_of Negative = 3
number_of Outside = 4
number_of PowerOutside = 5
number_of NoSuchOperation = 6
number_of Malformed = 7
number_of NoRoom = 8
number_of Small = 9
number_of Lengths = 10
number_of Full = 11
number_of WornOut = 12
number_of TooLong = 13
number_of TooDeep = 14
number_of NotARecipe = 15

-- the refusals in the order of their numbers, from 1
abbrev pub refusals : List Refusal
refusals =
    NotFinite ∷ Zero ∷ Negative ∷ Outside ∷ PowerOutside ∷ NoSuchOperation ∷ Malformed ∷ NoRoom ∷ Small ∷ Lengths ∷ Full ∷ WornOut ∷ TooLong ∷ TooDeep
    ∷ NotARecipe ∷ []

-- the refusal of a number from 1 to 15; any other number has the last
abbrev pub numbered : ℕ → Refusal
numbered zero = NotARecipe
numbered (suc n) = get_or refusals n NotARecipe
