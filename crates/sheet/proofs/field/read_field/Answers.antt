-- The spaces in front, and then the number behind them.
use Rattle.sheet.specs.Field.{field}
use Rattle.sheet.proofs.field.read_field.Goals as goal

pub returns : goal.returns
unfolding field
returns c = cc
