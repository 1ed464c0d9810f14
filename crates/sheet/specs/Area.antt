-- A lent area that is written from its start.
use Rattle.std.specs.Prelude.{List, ◌++◌, length, drop}

-- `new` at the area's start; what lies behind stays as it was.
unfoldable pub over : {A : Type 0} → (new area : List A) → List A
over new area = new ++ drop (length new) area
