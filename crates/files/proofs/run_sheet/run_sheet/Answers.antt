-- A refused sheet gives its own answer; a good one lends its nodes, and the run's promise is the rest.
use Rattle.files.proofs.SheetRunLaws.{run_refused, run_read}
use Rattle.files.proofs.run_sheet.run_sheet.Goals as goal

pub returns-then-read-ne0 : goal.returns-then-read-ne0
returns-then-read-ne0 c = run_refused _ _ _ _ _ c.read_sheet-read.ensures c.if-read-ne0.true

pub returns : goal.returns
returns c = run_read _ _ _ _ _ c.read_sheet-read.ensures c.if-read-ne0.false _ c.run.ensures
