-- What planread prints for three texts. Document 01, "Sheet and listing": "`planread` reads sheet.txt, literals.txt, plan.txt .. with
-- 16,380 token numbers, depth 1,024, call limit 0."
use Rattle.std.specs.Prelude.{ℕ, ◌≤◌, List, length, replicate}
use Rattle.reading.specs.Outcome.{Outcome, outcome}
use Rattle.sheet.specs.Sheet.{Reading, refused, read, reading}
use Rattle.sheet.specs.Listing.{listing, whole, Written}
use Rattle.files.specs.SheetRun.{Given, handed}

-- planread's areas and limits. Its node area has 4,096 fours.
abbrev pub given : (literals text : List ℕ) → Given
given literals text = record {
  literals = literals;
  text = text;
  depth_limit = 1024;
  call_limit = 0;
  tokens = replicate 16380 0;
  report = replicate 515 0;
  scratch = replicate 4864 0;
}

abbrev pub node_area : ℕ
node_area = 16384

-- Number, place, count and both areas: a refused sheet's, which leaves them, or those of the run over the nodes that the sheet gave.
abbrev pub answer_to : Reading → Given → Outcome
answer_to (refused n p) g = record { number = n; place = p; count = 0; tokens = g.tokens; report = g.report }
answer_to (read k ns) g = outcome (handed ns g)

abbrev pub printed : Outcome → List ℕ
printed o = listing (record { number = o.number; place = o.place; count = o.count }) o.tokens o.report

-- The listing of three texts.
unfoldable pub listing_of : (sheet literals text : List ℕ) → List ℕ
listing_of sheet literals text = printed (answer_to (reading sheet node_area) (given literals text))

-- What `list_texts` promises: the listing at the start of the area, or nothing where the area is too short for it; and that no listing is
-- longer than 3,277 lines of 61 bytes.
pub record Listed (sheet literals text before after : List ℕ) (r : ℕ) : Type 0 where
  pub written : Written (whole before (listing_of sheet literals text)) before after r
  pub most : length (listing_of sheet literals text) ≤ 199897
