-- Where each thing stands in what is told of an answer: the number first, then how many replies, then the twelve bytes of the first. It is
-- read off the definition.
-- Assumes nothing.
use mathlib.Core.Path.{◌≡◌, refl}
use lib.ListN.{get_or, take, drop}
use Rattle.node_rules.specs.Numbered.{Answer}
use Rattle.update_rules.specs.Delivery.{told}

-- byte 0 is the number
pub told_number : (a : Answer) → get_or (told a) 0 0 ≡ a.number
told_number a = refl

-- byte 1 is how many replies
pub told_count : (a : Answer) → get_or (told a) 1 0 ≡ a.count
told_count a = refl

-- the bytes behind are the first reply's
pub told_reply : (a : Answer) → drop 2 (told a) ≡ take 12 a.replies
told_reply a = refl
