use Rattle.cm_core.proofs.RowLaw.{row_of}
use Rattle.cm_core.proofs.SoundLaw.{row_is, turn_does, caused}
use Rattle.cm_core.proofs.law.turns_are_rows.Goals as goal

pub returns-clause-row : goal.returns-clause-row
returns-clause-row g c P V B s location w v valid within small goes = row_of g.S.Strand.strands valid w within v small goes

pub returns-clause-only : goal.returns-clause-only
returns-clause-only g c s w v r = row_is g.S.Strand.strands s w v r

pub returns-clause-says : goal.returns-clause-says
returns-clause-says g c P V B s location w v valid within small goes = turn_does g.S.Strand.strands valid w within v small goes

pub returns-clause-caused : goal.returns-clause-caused
returns-clause-caused g c s w v why cause = caused g.S.Strand.strands s w v why cause
