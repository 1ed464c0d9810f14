-- Whatever the run left in the two areas is what document 01 answers, and its listing is what was written.
use Rattle.files.proofs.ListedLaws.{listed}
use Rattle.files.proofs.list_texts.Goals as goal

pub returns : goal.returns
returns c = listed _ _ _ _ _ _ _ _ c.run_sheet-o.ensures c.run_sheet-o.auto.tokens c.run_sheet-o.auto.report c.write_listing.ensures
