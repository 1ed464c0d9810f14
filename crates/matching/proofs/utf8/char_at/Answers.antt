-- Past the end there is none; an ASCII byte is its own character; the rest is `beyond_ascii`.
use Rattle.std.proofs.Common.{rules}
use Rattle.matching.proofs.Steps.{no_byte, ascii}
use Rattle.matching.proofs.utf8.char_at.Goals as goal

pub returns-in_err-a : goal.returns-in_err-a
returns-in_err-a c = search (rules, no_byte)

pub returns-then-a-lt128 : goal.returns-then-a-lt128
returns-then-a-lt128 c = search (rules, ascii)
