-- Steps one after the other.
use Rattle.std.proofs.Common.{◌≡◌, List, [], ◌∷◌, ◌++◌, refl, ap, sym, subst, ◌∙◌}
use Rattle.graph_model.specs.Graph.{Graph}
use Rattle.graph_undo.specs.Undo.{Undo, undone, rolled_back, HasEnds, KeepEnds, LeadBack}

pub rolled_back-append : (steps more : List Undo) (g : Graph) → rolled_back (steps ++ more) g ≡ rolled_back steps (rolled_back more g)
rolled_back-append [] more g = refl
rolled_back-append (step ∷ steps) more g = ap (undone step) (rolled_back-append steps more g)

pub KeepEnds-append : (steps more : List Undo) (g : Graph) → KeepEnds steps (rolled_back more g) → KeepEnds more g → KeepEnds (steps ++ more) g
KeepEnds-append [] more g first then = then
KeepEnds-append (step ∷ steps) more g first then =
    (subst HasEnds (sym (rolled_back-append (step ∷ steps) more g)) first.0, KeepEnds-append steps more g first.1 then)

KeepEnds-last : (steps more : List Undo) (g : Graph) → KeepEnds (steps ++ more) g → KeepEnds more g
KeepEnds-last [] more g keep = keep
KeepEnds-last (step ∷ steps) more g keep = KeepEnds-last steps more g keep.1

KeepEnds-first : (steps more : List Undo) (g : Graph) → KeepEnds (steps ++ more) g → KeepEnds steps (rolled_back more g)
KeepEnds-first [] more g keep = tt
KeepEnds-first (step ∷ steps) more g keep = (subst HasEnds (rolled_back-append (step ∷ steps) more g) keep.0, KeepEnds-first steps more g keep.1)

-- the steps of a further call
pub lead_further : (steps more : List Undo) (now between before : Graph) → LeadBack more now between → LeadBack steps between before → LeadBack (steps ++ more) now before
lead_further steps more now between before last first = record {
  is = rolled_back-append steps more now ∙ ap (rolled_back steps) last.is ∙ first.is;
  ends = KeepEnds-append steps more now (subst (KeepEnds steps) (sym last.is) first.ends) last.ends;
}

-- the last step, and what it leaves to do
pub last_keeps_ends : (steps : List Undo) (step : Undo) (now before : Graph) → LeadBack (steps ++ step ∷ []) now before → HasEnds (undone step now)
last_keeps_ends steps step now before lead = (KeepEnds-last steps (step ∷ []) now lead.ends).0

pub lead_on : (steps : List Undo) (step : Undo) (now before : Graph) → LeadBack (steps ++ step ∷ []) now before → LeadBack steps (undone step now) before
lead_on steps step now before lead = record {
  is = sym (rolled_back-append steps (step ∷ []) now) ∙ lead.is;
  ends = KeepEnds-first steps (step ∷ []) now lead.ends;
}
