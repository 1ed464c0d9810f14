-- How the code's structs stand for a node: what the contracts of src/node.rt cite.
use Rattle.engine.specs.declared.node.Line.{Line}
use Rattle.engine.specs.declared.node.Ends.{Ends}
use Rattle.reading.specs.declared.node.Node.{Node}
use Rattle.reading.specs.Grammar.{natural}

-- A node whose fields are read as natural numbers.
abbrev pub line_of : Node → Line
line_of n = record { kind = natural n.kind; a = natural n.a; b = natural n.b; c = natural n.c }

-- The two ends of kind 16, which may be negative.
abbrev pub ends_of : Node → Ends
ends_of n = record { start = n.a; end = n.b }
