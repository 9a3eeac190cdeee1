use Rattle.cm_strand.proofs.law.frames_of_strands_fit.Goals as goal
use Rattle.cm_strand.proofs.PageLaw.{lie_above, fit_pages, fit_stack}

pub returns-clause-pages : goal.returns-clause-pages
returns-clause-pages c = λ w p frames low out v n pages most reached are may serial least deep. fit_pages w p frames low reached are may out v n pages most serial least deep

pub returns-clause-stack : goal.returns-clause-stack
returns-clause-stack c = λ w p frames low reached are may. fit_stack w p frames low reached are may

pub returns-clause-lie : goal.returns-clause-lie
returns-clause-lie c = λ w calls frames low d n are may deep some few. lie_above w calls frames low d n are may deep some few
