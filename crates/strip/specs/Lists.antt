-- The four lists of a strip as one value. Definitions only.
use Rattle.std.specs.Prelude.{◌≡◌}
use Rattle.strip.specs.declared.lists.Lists.{Lists}

-- the lists are those that were lent: the first two are as they were, and of the last two only what they hold may have changed
abbrev pub Kept : Lists → Lists → Type 0
Kept was is = (is.first ≡ was.first) × (is.second ≡ was.second) × (is.answers.ghost_name ≡ was.answers.ghost_name) × (is.refusals.ghost_name ≡ was.refusals.ghost_name)
