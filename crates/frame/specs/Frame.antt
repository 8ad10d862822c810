-- A frame on the bench: a line of 18 lower-case hexadecimal digits, the operation, the first word and the second; and its answer,
-- 11 bytes. Definitions only.
use Rattle.std.specs.Prelude.{ℕ, zero, suc, ◌+◌, ◌-◌, ◌*◌, ◌/◌, ◌%◌, ◌^◌, Bool, true, cond, ◌&&◌, ◌||◌, List, [], ◌∷◌, ◌++◌, leb, ltb, eqb, length, take, drop, Option, Some, None}
use Rattle.frame.specs.Words.{packed, words_of}

-- ---- digits: 0 to 9 are the bytes 30 to 39, and a to f the bytes 61 to 66

abbrev pub is_digit : ℕ → Bool
is_digit b = (leb 0x30 b && leb b 0x39) || (leb 0x61 b && leb b 0x66)

abbrev pub digit_of : ℕ → ℕ
digit_of b = cond (leb b 0x39) (b - 0x30) (b - 0x57)

-- none of a byte that is no digit
abbrev pub digit_in : ℕ → Option ℕ
digit_in b = cond (is_digit b) (Some (digit_of b)) None

abbrev pub byte_of : ℕ → ℕ
byte_of d = cond (leb d 9) (0x30 + d) (0x57 + d)

-- ---- a line

abbrev pub all_digits : List ℕ → Bool
all_digits [] = true
all_digits (b ∷ bs) = is_digit b && all_digits bs

-- what digits write after n, the highest first
abbrev pub number_after : ℕ → List ℕ → ℕ
number_after n [] = n
number_after n (b ∷ bs) = number_after (n * 16 + digit_of b) bs

-- the number that stands in a line from a place on
abbrev pub number_at : ℕ → ℕ → List ℕ → ℕ
number_at from count line = number_after 0 (take count (drop from line))

abbrev pub is_frame : List ℕ → Bool
is_frame line = eqb (length line) 18 && all_digits line

-- the answer as words: 7 for a line that is no frame
unfoldable pub line_words : List ℕ → ℕ
line_words line = cond (is_frame line) (words_of (number_at 0 2 line) (number_at 2 8 line) (number_at 10 8 line)) (packed 7 0)

-- ---- an answer

-- the lowest count digits of a number, the highest first
unfoldable pub hex_bytes : ℕ → ℕ → List ℕ
hex_bytes zero n = []
hex_bytes (suc k) n = byte_of (n / 16 ^ k % 16) ∷ hex_bytes k n

-- a refusal of two digits stands above a word of eight; then the newline
abbrev pub words_bytes : ℕ → List ℕ
words_bytes words = hex_bytes 10 words ++ (10 ∷ [])

unfoldable pub answer_bytes : List ℕ → List ℕ
answer_bytes line = words_bytes (line_words line)

-- ---- an answer written into a space that is lent: the number that is returned, and what the space is left with

abbrev pub returned_for : ℕ → List ℕ → ℕ
returned_for words space = cond (ltb (length space) 11) 8 (words / 2 ^ 32)

abbrev pub left_with : List ℕ → List ℕ → List ℕ
left_with answer space = cond (ltb (length space) 11) space (answer ++ drop 11 space)

-- and by the line
abbrev pub returned : List ℕ → List ℕ → ℕ
returned line space = returned_for (line_words line) space

abbrev pub left : List ℕ → List ℕ → List ℕ
left line space = left_with (answer_bytes line) space
