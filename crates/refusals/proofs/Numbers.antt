-- Each refusal has its own number, from 1 to 15, and is the refusal of that number. Assumes nothing.
use Rattle.std.proofs.Common.{◌≡◌, refl, sym, ap, ◌∙◌, [], ◌∷◌, map}
use Rattle.refusals.specs.declared.Refusal.{Refusal}
use Rattle.refusals.specs.declared.Refusal.TheVariants.{NotFinite, Zero, Negative, Outside, PowerOutside, NoSuchOperation, Malformed, NoRoom, Small, Lengths, Full, WornOut, TooLong, TooDeep, NotARecipe}
use Rattle.refusals.specs.Numbers.{number_of, numbered}

-- ---- the table

pub table :
    map number_of (NotFinite ∷ Zero ∷ Negative ∷ Outside ∷ PowerOutside ∷ NoSuchOperation ∷ Malformed ∷ NoRoom ∷ Small ∷ Lengths ∷ Full ∷ WornOut ∷ TooLong ∷ TooDeep ∷ NotARecipe ∷ [])
    ≡ 1 ∷ 2 ∷ 3 ∷ 4 ∷ 5 ∷ 6 ∷ 7 ∷ 8 ∷ 9 ∷ 10 ∷ 11 ∷ 12 ∷ 13 ∷ 14 ∷ 15 ∷ []
table = refl

-- ---- a number's refusal has that number, and no two have one number

pub all_numbered : map number_of (map numbered (1 ∷ 2 ∷ 3 ∷ 4 ∷ 5 ∷ 6 ∷ 7 ∷ 8 ∷ 9 ∷ 10 ∷ 11 ∷ 12 ∷ 13 ∷ 14 ∷ 15 ∷ []))
    ≡ 1 ∷ 2 ∷ 3 ∷ 4 ∷ 5 ∷ 6 ∷ 7 ∷ 8 ∷ 9 ∷ 10 ∷ 11 ∷ 12 ∷ 13 ∷ 14 ∷ 15 ∷ []
all_numbered = refl

pub back : (r : Refusal) → numbered (number_of r) ≡ r
back NotFinite = refl
back Zero = refl
back Negative = refl
back Outside = refl
back PowerOutside = refl
back NoSuchOperation = refl
back Malformed = refl
back NoRoom = refl
back Small = refl
back Lengths = refl
back Full = refl
back WornOut = refl
back TooLong = refl
back TooDeep = refl
back NotARecipe = refl

pub injective : (r s : Refusal) → number_of r ≡ number_of s → r ≡ s
injective r s e = sym (back r) ∙ ap numbered e ∙ back s
