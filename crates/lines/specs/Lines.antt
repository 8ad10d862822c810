-- The lines of an input and their answers, of the whole and chunk by chunk, over any answer to a line. Definitions only.
use Rattle.std.specs.Prelude.{ℕ, cond, List, [], ◌∷◌, ◌++◌, eqb}

abbrev pub newline : ℕ
newline = 10

-- ---- the whole input

-- a byte before the first line's, or alone where there is no line
abbrev pub onto : ℕ → List (List ℕ) → List (List ℕ)
onto b [] = (b ∷ []) ∷ []
onto b (l ∷ ls) = (b ∷ l) ∷ ls

-- a newline ends a line, and what follows the last newline is a line too where it is not empty
abbrev pub lines_of : List ℕ → List (List ℕ)
lines_of [] = []
lines_of (b ∷ bs) = cond (eqb b newline) ([] ∷ lines_of bs) (onto b (lines_of bs))

-- the answers to some lines, one after the other
abbrev pub answers : (List ℕ → List ℕ) → List (List ℕ) → List ℕ
answers f [] = []
answers f (l ∷ ls) = f l ++ answers f ls

abbrev pub answers_of : (List ℕ → List ℕ) → List ℕ → List ℕ
answers_of f input = answers f (lines_of input)

-- ---- chunk by chunk: what is kept is the line begun

-- the lines that end within a chunk; p begins the first of them
abbrev pub completed : List ℕ → List ℕ → List (List ℕ)
completed p [] = []
completed p (b ∷ bs) = cond (eqb b newline) (p ∷ completed [] bs) (completed (p ++ b ∷ []) bs)

-- the line begun and not ended as a chunk ends, where p was begun before it
abbrev pub pending : List ℕ → List ℕ → List ℕ
pending p [] = p
pending p (b ∷ bs) = cond (eqb b newline) (pending [] bs) (pending (p ++ b ∷ []) bs)

-- at the end of the input, the line begun is one where it is not empty
abbrev pub last_line : List ℕ → List (List ℕ)
last_line [] = []
last_line (b ∷ bs) = (b ∷ bs) ∷ []

-- the answers to chunks fed in turn, and then to the last line
abbrev pub answers_over : (List ℕ → List ℕ) → List ℕ → List (List ℕ) → List ℕ
answers_over f p [] = answers f (last_line p)
answers_over f p (c ∷ cs) = answers f (completed p c) ++ answers_over f (pending p c) cs

-- the chunks put together
abbrev pub joined : List (List ℕ) → List ℕ
joined [] = []
joined (c ∷ cs) = c ++ joined cs
