-- What holds of each row of a table, one behind another.
infixr 20 ◌▹◌
-- A row, and those after it.
abbrev pub ◌▹◌ : {A B : Type 0} → A → B → A × B
u ▹ v = (u, v)
