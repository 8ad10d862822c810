-- The marks at the words beside each test, with the integer, and with what raw floor and ceil give: one computation over the definitions
-- that the contracts cite. And wrong marks that what a mark tells rules out. Assumes nothing.
use Rattle.std.proofs.Common.{◌≡◌, ℕ, ◌-◌, ◌^◌, List, [], ◌∷◌, map, ℤ, pos, negsuc, refl, ap, arith}
use lib.Ieee.{binary32, add, sub, lt, nan_bits, of_bits, to_bits, of_int, to_signed}
use Rattle.format.specs.Sign.{turned_word}
use Rattle.format.specs.Whole.{floor_word, ceil_word}
use Rattle.float.specs.declared.mark.Mark.{Mark}
use Rattle.float.specs.declared.mark.Mark.TheVariants.{Exact, Dropped, High, Low, NotANumber}
use Rattle.float.specs.Marks.{mark_of, number_of, Tells}
use Rattle.float.proofs.Marks.{one_mark}

-- a word; the mark of its cast, and the integer; floor's word, whose mark is the cast's; ceil's mark and word
pub record Case : Type 0 where
  pub word : ℕ
  pub mark : Mark
  pub integer : ℤ
  pub floor : ℕ
  pub ceil_mark : Mark
  pub ceil : ℕ

abbrev at : ℕ → Mark → ℤ → ℕ → Mark → ℕ → Case
at w m z f n c = record { word = w; mark = m; integer = z; floor = f; ceil_mark = n; ceil = c }

abbrev pub cases : List Case
cases =
    -- both zeros
    at 0x0000_0000 Exact (pos 0) 0x0000_0000 Exact 0x8000_0000
    ∷ at 0x8000_0000 Exact (pos 0) 0x0000_0000 Exact 0x8000_0000
    -- the smallest numbers, the last below 0 that is not normal, and a half
    ∷ at 0x0000_0001 Dropped (pos 0) 0x0000_0000 Dropped 0x3f80_0000
    ∷ at 0x8000_0001 Dropped (pos 0) 0xbf80_0000 Dropped 0x8000_0000
    ∷ at 0x807f_ffff Dropped (pos 0) 0xbf80_0000 Dropped 0x8000_0000
    ∷ at 0x3f00_0000 Dropped (pos 0) 0x0000_0000 Dropped 0x3f80_0000
    ∷ at 0xbf00_0000 Dropped (pos 0) 0xbf80_0000 Dropped 0x8000_0000
    -- about 1, and -2.5 and -3
    ∷ at 0x3f7f_ffff Dropped (pos 0) 0x0000_0000 Dropped 0x3f80_0000
    ∷ at 0x3f80_0000 Exact (pos 1) 0x3f80_0000 Exact 0x3f80_0000
    ∷ at 0x3f80_0001 Dropped (pos 1) 0x3f80_0000 Dropped 0x4000_0000
    ∷ at 0xc020_0000 Dropped (negsuc 1) 0xc040_0000 Dropped 0xc000_0000
    ∷ at 0xc040_0000 Exact (negsuc 2) 0xc040_0000 Exact 0xc040_0000
    -- the last with a fraction, and the next
    ∷ at 0x4aff_ffff Dropped (pos 8388607) 0x4aff_fffe Dropped 0x4b00_0000
    ∷ at 0x4b00_0000 Exact (pos 8388608) 0x4b00_0000 Exact 0x4b00_0000
    -- about 2 ^ 31
    ∷ at 0x4eff_ffff Exact (pos 2147483520) 0x4eff_ffff Exact 0x4eff_ffff
    ∷ at 0x4f00_0000 High (pos 2147483647) 0x4f00_0000 Exact 0x4f00_0000
    ∷ at 0x4f00_0001 High (pos 2147483647) 0x4f00_0000 Low 0x4f00_0000
    ∷ at 0x4f80_0000 High (pos 2147483647) 0x4f00_0000 Low 0x4f00_0000
    -- about -2 ^ 31
    ∷ at 0xceff_ffff Exact (negsuc 2147483519) 0xceff_ffff Exact 0xceff_ffff
    ∷ at 0xcf00_0000 Exact (negsuc 2147483647) 0xcf00_0000 High 0xcf00_0000
    ∷ at 0xcf00_0001 Low (negsuc 2147483647) 0xcf00_0000 High 0xcf00_0000
    ∷ at 0xcf80_0000 Low (negsuc 2147483647) 0xcf00_0000 High 0xcf00_0000
    -- the last numbers, the infinities, and three NaN, the first and the last among them
    ∷ at 0x7f7f_ffff High (pos 2147483647) 0x4f00_0000 Low 0x4f00_0000
    ∷ at 0xff7f_ffff Low (negsuc 2147483647) 0xcf00_0000 High 0xcf00_0000
    ∷ at 0x7f80_0000 High (pos 2147483647) 0x4f00_0000 Low 0x4f00_0000
    ∷ at 0xff80_0000 Low (negsuc 2147483647) 0xcf00_0000 High 0xcf00_0000
    ∷ at 0x7f80_0001 NotANumber (pos 0) 0x0000_0000 NotANumber 0x8000_0000
    ∷ at 0x7fc0_0000 NotANumber (pos 0) 0x0000_0000 NotANumber 0x8000_0000
    ∷ at 0xffff_ffff NotANumber (pos 0) 0x0000_0000 NotANumber 0x8000_0000
    ∷ []

abbrev given : ℕ → Case
given w = at w (mark_of w) (to_signed 31 (of_bits binary32 w)) (floor_word binary32 w) (mark_of (turned_word binary32 w)) (ceil_word binary32 w)

pub marked : map (λ (c : Case). given c.word) cases ≡ cases
unfolding add sub lt nan_bits of_bits to_bits of_int to_signed
marked = refl

pub numbers : map number_of (Exact ∷ Dropped ∷ High ∷ Low ∷ NotANumber ∷ []) ≡ 0 ∷ 1 ∷ 2 ∷ 3 ∷ 4 ∷ []
numbers = refl

-- ---- ruled out, though the integer is right: 2 ^ 31 exact; -2 ^ 31 low; a NaN exact; -0 dropped; high for low

pub wrong_marks : (Tells Exact 0x4f00_0000 (pos (2 ^ 31 - 1)) → ⊥) × ((Tells Low 0xcf00_0000 (negsuc (2 ^ 31 - 1)) → ⊥) × ((Tells Exact 0x7fc0_0000 (pos 0) → ⊥) × ((Tells Dropped 0x8000_0000 (pos 0) → ⊥) × (Tells High 0xff80_0000 (negsuc (2 ^ 31 - 1)) → ⊥))))
unfolding nan_bits of_bits to_signed
wrong_marks = (
  (λ c. not_so Exact 0x4f00_0000 c (λ e. omega arith)),
  (
    (λ c. not_so Low 0xcf00_0000 c (λ e. omega arith)),
    (
      (λ c. not_so Exact 0x7fc0_0000 c (λ e. omega arith)),
      ((λ c. not_so Dropped 0x8000_0000 c (λ e. omega arith)), (λ c. not_so High 0xff80_0000 c (λ e. omega arith))),
    ),
  ),
)
  where
    not_so : (m : Mark) (w : ℕ) → Tells m w (to_signed 31 (of_bits binary32 w)) → (number_of m ≡ number_of (mark_of w) → ⊥) → ⊥
    not_so m w c n = n (ap number_of (one_mark m w c))
