use Rattle.std.specs.Prelude.{Some}
use Rattle.cm_deques.proofs.ends.Deque.make.Given as goal

abbrev pub ghosts-name : goal.ghosts-name
ghosts-name g a = record { home = Some a.home.now }
