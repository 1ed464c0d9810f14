-- The refusal that the tests of a run answer: its number and place tell which it is, and none is answered only where none is due.
use mathlib.Core.Path.{◌≡◌, refl, sym, ap, ◌∙◌}
use lib.Dec.{eqb}
use lib.ListN.{length}
use Rattle.std.specs.Prelude.{Option, None, Result, Ok, if◌then◌else◌}
use Rattle.checks.specs.declared.grammar.Refused.{Refused}
use Rattle.checks.specs.declared.grammar.Refused.TheVariants.{Literals, Nodes, StillRepeat, Root, Text, DepthLimit, Areas}
use Rattle.reading.specs.Outcome.{Input, Refusal, refusal_on, refusal}
use Rattle.checks.specs.Refusals.{refusal_of, refused_of}

-- The refusal of a number and a place.
told : Refusal → Refused
told r =
    if eqb r.number 4 then Literals
    else if eqb r.number 5 then Nodes r.place
    else if eqb r.number 6 then StillRepeat r.place
    else if eqb r.number 18 then Root
    else if eqb r.number 7 then Text
    else if eqb r.number 8 then DepthLimit
    else Areas

told_back : (r : Refused) → told (refusal_of r) ≡ r
unfolding told
told_back Literals = refl
told_back (Nodes line) = refl
told_back (StillRepeat line) = refl
told_back Root = refl
told_back Text = refl
told_back DepthLimit = refl
told_back Areas = refl

pub refusal_of-injective : (a b : Refused) → refusal_of a ≡ refusal_of b → a ≡ b
refusal_of-injective a b e = sym (told_back a) ∙ ap told e ∙ told_back b

-- The refusal of an input is that of its parts.
pub of_input : {o : Option Refusal} (i : Input)
    → o ≡ refusal_on i.nodes i.literals i.text i.root i.depth_limit (length i.report) i.scratch → o ≡ refusal i
unfolding refusal
of_input i e = e

pub not_refused : (o : Option Refusal) {r : Result (Unit {0}) Refused} {u : Unit {0}} → r ≡ Ok u → refused_of r ≡ o → o ≡ None
not_refused o e q = sym q ∙ ap refused_of e
