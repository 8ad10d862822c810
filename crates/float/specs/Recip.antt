-- recip's steps, for every word: a first estimate of the magnitude's inverse by words, then a polynomial that corrects it. Definitions only.
use Rattle.std.specs.Prelude.{ℕ, ◌+◌, ◌-◌, ◌%◌, ◌^◌, cond, to_bits, Float}
use Rattle.std.specs.Float.{binary32}
use Rattle.std.specs.Float.Ieee.{neg, lt}
use Rattle.float.specs.Rounded.{◌⊕◌, ◌⊖◌, ◌⊗◌, number}

-- -1 for a number below 0, else 1
abbrev pub side : Float → Float
side x = cond (lt x (number 0)) (neg (number 0x3f80_0000)) (number 0x3f80_0000)

abbrev pub recip_magic : ℕ
recip_magic = 0x7ef1_27ea

-- the number whose word is the magic number less y's word, modulo 2 ^ 32; a NaN's word is 7fc00000
abbrev pub estimate : Float → Float
estimate y = number ((2 ^ 32 + recip_magic - to_bits binary32 y) % 2 ^ 32)

-- 8 + w * (-28 + w * (56 + w * (-70 + w * (56 + w * (-28 + w * (8 - w))))))
unfoldable pub correction : Float → Float
correction w =
    let a = number 0x4100_0000 in
    let b = neg (number 0x41e0_0000) in
    let c = number 0x4260_0000 in
    let d = neg (number 0x428c_0000) in
    a ⊕ w ⊗ (b ⊕ w ⊗ (c ⊕ w ⊗ (d ⊕ w ⊗ (c ⊕ w ⊗ (b ⊕ w ⊗ (a ⊖ w))))))

unfoldable pub recip_word : ℕ → ℕ
recip_word word =
    let x = number word in
    let y = x ⊗ side x in
    let v = estimate y in
    to_bits binary32 (v ⊗ correction (y ⊗ v) ⊗ side x)
