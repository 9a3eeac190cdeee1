use Rattle.cm_syntax.proofs.parser.trace.OneTree.{Parses-one, IsSourceOf-one}
use Rattle.cm_syntax.proofs.law.one_tree.Goals as goal

pub returns-clause-tokens : goal.returns-clause-tokens
returns-clause-tokens c = Parses-one

pub returns-clause-source : goal.returns-clause-source
returns-clause-source c = IsSourceOf-one
