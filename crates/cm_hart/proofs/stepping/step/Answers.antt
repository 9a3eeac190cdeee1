-- What a step's answers tell, from what the effect of the fetched instruction is.
use Rattle.cm_isa.specs.Operation.{ecall}
use Rattle.cm_hart.proofs.Outcome.{Answers, going_answers, jump_answers, machine_answers, service_answers}
use Rattle.cm_hart.proofs.stepping.step.Given.{Over}
use Rattle.cm_hart.proofs.stepping.step.Goals as goal
use Rattle.cm_hart.proofs.stepping.step.Goals.{After-execute}

-- the fetched instruction is at the pc, and the answer is that of its effect
answers : (g : Over) (c : After-execute g)
    → Answers c.args.code.now (g.W.Words.view c.args.words.now) c.in-Ok.instr c.args.hart.now c.execute.result c.execute.new.hart (g.W.Words.view c.execute.new.words)
answers g c = record {
  there = c.in-Ok.ensures.cases;
  leaves = c.execute.ensures.outcome;
}

pub returns-in-Ok-clause-jump : goal.returns-in-Ok-clause-jump
returns-in-Ok-clause-jump g c =
    let here = (answers g c).there in
    ((λ e place. jump_answers _ _ _ _ _ _ _ (answers g c) c.args.hart.now.pc e place.0), (λ none. absurd (none (here.0, here.1))))

pub returns-in-Ok-clause-target : goal.returns-in-Ok-clause-target
returns-in-Ok-clause-target g c = λ a place. jump_answers _ _ _ _ _ _ _ (answers g c) a

pub returns-in-Ok-clause-going : goal.returns-in-Ok-clause-going
returns-in-Ok-clause-going g c = λ e. (c.in-Ok.instr, (answers g c).there, going_answers _ _ _ _ _ _ _ (answers g c) e)

pub returns-in-Ok-clause-service : goal.returns-in-Ok-clause-service
returns-in-Ok-clause-service g c = service_answers _ _ _ _ _ _ _ (answers g c)

pub returns-in-Ok-clause-machine : goal.returns-in-Ok-clause-machine
returns-in-Ok-clause-machine g c =
    machine_answers _ _ _ _ _ _ _ (answers g c) c.execute.ensures.registers (c.requires c.in-Ok.instr (answers g c).there)

pub returns-in-Err-clause-service : goal.returns-in-Err-clause-service
returns-in-Err-clause-service g c = λ n. (
  (λ e. cc),
  (λ h.
      let found = c.fetch.ensures.found ecall h.1 in
      cc),
)

pub returns-in-Err-clause-machine : goal.returns-in-Err-clause-machine
returns-in-Err-clause-machine g c = λ map m. (
  (λ step.
      let found = c.fetch.ensures.found step.instruction step.there in
      cc),
  (λ h. let going = h.0 in cc),
)
