-- The worked examples, by computing; those of plans are proved with the plans. Assumes nothing.
use Rattle.std.proofs.Common.{List, [], ◌∷◌, ◌++◌, map, refl}
use Rattle.plan.specs.Examples.{Example as PlanExample, AllShown as AllPlansShown, examples as plan_examples}
use Rattle.plan.proofs.Worked.{worked as plans_worked}
use Rattle.sheet.specs.Examples.{AllShown, Example, ExamplesHold, sheet_examples}
use Rattle.sheet.specs.Examples.Example.{of_plans}

sheets : AllShown sheet_examples
sheets = (refl, ((refl, refl), (refl, (refl, (refl, (refl, (refl, (refl, tt))))))))

plans_first : (es : List PlanExample) (fs : List Example) → AllPlansShown es → AllShown fs → AllShown (map of_plans es ++ fs)
plans_first [] fs a b = b
plans_first (e ∷ es) fs a b = (a.0, plans_first es fs a.1 b)

pub worked : ExamplesHold
worked = plans_first plan_examples sheet_examples plans_worked sheets
