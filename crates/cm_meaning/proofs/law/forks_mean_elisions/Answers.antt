use Rattle.cm_meaning.proofs.ForkMeaning.{fork_means, fork_serial, only_end}
use Rattle.cm_meaning.proofs.law.forks_mean_elisions.Goals as goal

pub returns-clause-piece : goal.returns-clause-piece
returns-clause-piece c = fork_means

pub returns-clause-program : goal.returns-clause-program
returns-clause-program c = fork_serial

pub returns-clause-one_end : goal.returns-clause-one_end
returns-clause-one_end c = λ program input limits d e x y. only_end program input limits e d (fork_serial program input limits e y) x
