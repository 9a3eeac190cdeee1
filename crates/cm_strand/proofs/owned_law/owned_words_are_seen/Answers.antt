use Rattle.cm_strand.proofs.owned_law.owned_words_are_seen.Goals as goal
use Rattle.cm_strand.proofs.OwnedLaw.{sum_extends, seen_where_claimed, claimed_where_written, read_where_claimed, unread_where_lacking, put_seen, put_claim}

pub returns-clause-more : goal.returns-clause-more
returns-clause-more c = sum_extends

pub returns-clause-whole : goal.returns-clause-whole
returns-clause-whole c = seen_where_claimed

pub returns-clause-written : goal.returns-clause-written
returns-clause-written c = put_seen

pub returns-clause-same_claim : goal.returns-clause-same_claim
returns-clause-same_claim c = put_claim

pub returns-clause-no_part : goal.returns-clause-no_part
returns-clause-no_part c = claimed_where_written

pub returns-clause-some : goal.returns-clause-some
returns-clause-some c = read_where_claimed

pub returns-clause-no_more : goal.returns-clause-no_more
returns-clause-no_more c = unread_where_lacking
