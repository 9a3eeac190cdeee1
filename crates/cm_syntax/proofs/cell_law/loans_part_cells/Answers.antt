use Rattle.cm_syntax.proofs.CellLaw.{loan_sum, loan_reads, loan_no_write, loan_whole, share_back}
use Rattle.cm_syntax.proofs.cell_law.loans_part_cells.Goals as goal

pub returns-clause-sum : goal.returns-clause-sum
returns-clause-sum c = loan_sum

pub returns-clause-both_read : goal.returns-clause-both_read
returns-clause-both_read c = loan_reads

pub returns-clause-neither_writes : goal.returns-clause-neither_writes
returns-clause-neither_writes c = loan_no_write

pub returns-clause-whole_again : goal.returns-clause-whole_again
returns-clause-whole_again c = loan_whole

pub returns-clause-share_comes_back : goal.returns-clause-share_comes_back
returns-clause-share_comes_back c = share_back
