use Rattle.std.proofs.Common.{◌≡◌, ◌*◌, arith, length, drop, take, subst, sym, ◌∙◌}
use Rattle.std.proofs.lemmas.List.{take_rest, length_push}
use Rattle.cm_asm.specs.Listing.{AreWords, line}
use Rattle.cm_asm.specs.Reading.{LeavesLine}
use Rattle.cm_asm.proofs.ListLaw.{each-push}
use Rattle.cm_asm.proofs.TextLaw.{LeavesAt-full, LeavesAt-line, LeavesAt-one, LeavesAt-not_listing, listing-injective, listing-read, line-inside, text-read}
use Rattle.cm_asm.proofs.reading.unlist.Goals as goal

pub returns-then-len-eq-MAX_WORDS-clause-line : goal.returns-then-len-eq-MAX_WORDS-clause-line
returns-then-len-eq-MAX_WORDS-clause-line c =
    let l = c.loop-at in
    let are : AreWords l.words = record { few = l.invariant.few; each = l.invariant.each } in
    LeavesAt-full c.args.text.now l.words l.at are (omega arith) l.invariant.read l.invariant.place (omega arith)

pub returns-then-len-eq-MAX_WORDS-clause-each_listing : goal.returns-then-len-eq-MAX_WORDS-clause-each_listing
returns-then-len-eq-MAX_WORDS-clause-each_listing c = λ words are e.
    LeavesAt-not_listing c.args.text.now c.loop-at.at (words, are, e) (returns-then-len-eq-MAX_WORDS-clause-line c)

pub returns-then-len-eq-MAX_WORDS-clause-each_line : goal.returns-then-len-eq-MAX_WORDS-clause-each_line
returns-then-len-eq-MAX_WORDS-clause-each_line c = λ at leaves.
    LeavesAt-one c.args.text.now c.loop-at.at at (returns-then-len-eq-MAX_WORDS-clause-line c) leaves

pub returns-in-Err-clause-line : goal.returns-in-Err-clause-line
returns-in-Err-clause-line c =
    let l = c.loop-at in
    let text = c.args.text.now in
    let are : AreWords l.words = record { few = l.invariant.few; each = l.invariant.each } in
    let raw = subst (λ rest. LeavesLine (4 * c.len-in-loop-at.result) rest c.in-Err.count) (take_rest text l.at) c.in-Err.ensures.err in
    let h = subst (λ len. LeavesLine (4 * len) (drop l.at text) c.in-Err.count) c.len-in-loop-at.ensures raw in
    LeavesAt-line text l.words l.at c.in-Err.count are (omega arith) l.invariant.read l.invariant.place (omega arith) h

pub returns-in-Err-clause-each_listing : goal.returns-in-Err-clause-each_listing
returns-in-Err-clause-each_listing c = λ words are e.
    LeavesAt-not_listing c.args.text.now _ (words, are, e) (returns-in-Err-clause-line c)

pub returns-in-Err-clause-each_line : goal.returns-in-Err-clause-each_line
returns-in-Err-clause-each_line c = λ at leaves.
    LeavesAt-one c.args.text.now _ at (returns-in-Err-clause-line c) leaves

pub loop-at-preserved : goal.loop-at-preserved
loop-at-preserved c =
    let l = c.loop-at in
    let text = c.args.text.now in
    let w = c.in-Ok.word in
    let raw = subst (λ rest. take 18 rest ≡ line (4 * c.len-in-loop-at.result) w) (take_rest text l.at) c.in-Ok.ensures.ok in
    let read = subst (λ len. take 18 (drop l.at text) ≡ line (4 * len) w) c.len-in-loop-at.ensures raw in
    let pushed = c.in_ok-push-in-Ok.ensures.ok in
    let size = length_push l.words w in
    record {
      inside = line-inside text l.at (4 * length l.words) w read (omega arith);
      read = rw pushed (listing-read text l.words l.at w l.invariant.read l.invariant.place read);
      place = rw pushed (omega (arith, size));
      few = rw pushed (omega (arith, size));
      each = λ k. rw pushed (each-push l.words w l.invariant.each (omega arith) k);
    }

pub returns-clause-each_listing : goal.returns-clause-each_listing
returns-clause-each_listing c = λ words are e.
    let l = c.loop-at in
    let mine : AreWords l.words = record { few = l.invariant.few; each = l.invariant.each } in
    listing-injective l.words words mine are (sym (text-read c.args.text.now l.words l.at l.invariant.read (omega arith)) ∙ e)

pub returns-clause-each_line : goal.returns-clause-each_line
returns-clause-each_line c = λ at leaves.
    let l = c.loop-at in
    let mine : AreWords l.words = record { few = l.invariant.few; each = l.invariant.each } in
    LeavesAt-not_listing c.args.text.now at (l.words, mine, text-read c.args.text.now l.words l.at l.invariant.read (omega arith)) leaves
