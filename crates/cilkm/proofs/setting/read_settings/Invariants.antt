use Rattle.cilkm.specs.Asked.{texts}
use Rattle.cilkm.proofs.SettingLaw.{Taken}
use Rattle.cilkm.proofs.setting.read_settings.Given as goal

abbrev pub decreases-loop-at : goal.decreases-loop-at
decreases-loop-at l = l.at

abbrev pub invariant-loop-at : goal.invariant-loop-at
invariant-loop-at l = Taken l.command (texts l.words) l.at l.given
