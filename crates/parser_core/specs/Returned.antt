-- What the exported functions hand back, as the outcomes of which `run` and `read_sheet` promise.
use Rattle.engine.specs.declared.state.Outcome.{Outcome}
use Rattle.engine.specs.declared.state.RunOutcome.{RunOutcome}
use Rattle.parser_core.specs.declared.ParserCoreOutcome as Exported
use Rattle.parser_core.specs.declared.ParserCoreRunOutcome as ExportedRun

abbrev pub returned : Exported.ParserCoreOutcome → Outcome
returned o = record { number = o.0; place = o.1; count = o.2 }

abbrev pub run_returned : ExportedRun.ParserCoreRunOutcome → RunOutcome
run_returned o = record { outcome = record { number = o.0; place = o.1; count = o.2 }; calls = o.3 }
