-- What a steal answers.
use Rattle.cm_deques.specs.declared.ends.Stolen.{Stolen}
use Rattle.cm_deques.specs.declared.ends.Stolen.TheVariants.{Got, Empty, Retry}

-- what holds where nothing was stolen, and what of the task that was
abbrev pub MatchStolen : {T : Type 0} → Stolen T → Type 0 → (T → Type 0) → Type 0
MatchStolen (Got t) none one = one t
MatchStolen Empty none one = none
MatchStolen Retry none one = none
