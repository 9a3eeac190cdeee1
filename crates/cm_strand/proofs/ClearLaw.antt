-- The free words below the frames: where all is given between two addresses and no hole claims any of it, the strand runs on it; and
-- events leave it so.
use Rattle.std.proofs.Common.{◌≡◌, ℕ, ◌≤◌, Bool, true, false, List, [], ◌∷◌, None, Some, refl, sym, subst, arith}
use Rattle.std.proofs.lemmas.Bool.{eqb-true, eqb-false, leb-true, leb-false, ltb-true, ltb-false}
use Rattle.std.specs.Prelude.{◌==◌, nat_le, nat_lt, if◌then◌else◌}
use Rattle.cm_meaning.specs.End.{End, Done, Trapped, Spent}
use Rattle.cm_gen.specs.FrameWord.{bits}
use Rattle.cm_strand.specs.Owned.{Owned, Claim, ClaimSum, MayWrite, Lacks, Covers, Spares, seen, claim, put}
use Rattle.cm_gen.specs.StandsFor.{AreMapped}
use Rattle.cm_strand.specs.Strand.{Request, Filling, empty, filled, Hole, Entry, number, hole, Strand, hole_count, hole_claim, Outstanding, Balances, HolesSpare, OthersSpare, OlderSpare}
use Rattle.cm_strand.specs.Turn.{spawn, fill, filled_hole, delivered, joined_hole, joined_log, paid_filling, FilledDone, AllFilledDone}
use Rattle.cm_strand.proofs.OwnedLaw.{claims_commute, may_write_first, whole_of_sum, lacks_both, lacks_none, no_words_claim, put_claim, seen_where_claimed}

holes_lack : (from to : ℕ) (log : List Entry) (out : Claim) → Outstanding log out → HolesSpare from to log → Spares out from to
holes_lack from to [] out o spare a even low high = subst (λ k. Lacks k a) (sym o) (lacks_none a)
holes_lack from to (number v ∷ log) out o spare a even low high = holes_lack from to log out o spare a even low high
holes_lack from to (hole H ∷ log) out o spare a even low high =
    lacks_both (hole_claim H H.filling) o.0 out a o.2 (spare.0 a even low high) (holes_lack from to log o.0 o.1 spare.1 a even low high)

pub runs_on_free : (given : Claim) (w : Owned) (log : List Entry) (from to : ℕ) → Balances given w log → Covers given from to → HolesSpare from to log
    → Covers (claim w) from to × AreMapped from to (seen w)
runs_on_free given w log from to b covers spare = (whole_, λ a even low high. seen_where_claimed w a (whole_ a even low high))
  where
    whole_ : Covers (claim w) from to
    whole_ a even low high = may_write_first (claim w) b.0 given a b.2 (covers a even low high) (holes_lack from to log b.0 b.1 spare a even low high)

-- ---- what events leave of them

-- who has the whole of a word has it in the sum, where the other one has nothing more of it
pub covers_more : (given more later : Claim) (from middle to : ℕ) → ClaimSum given more later → Covers given middle to → Covers more from middle → Covers later from to
covers_more given more later from middle to sum old new a even low high = by (nat_lt a middle) refl
  where
    by : (b : Bool) → nat_lt a middle ≡ b → MayWrite later a
    by true e = whole_of_sum more given later a (claims_commute given more later sum) (new a even low (ltb-true a middle e))
    by false e = whole_of_sum given more later a sum (old a even (ltb-false a middle e) high)

pub covers_less : (later less given : Claim) (from to : ℕ) → ClaimSum later less given → Covers given from to → Spares less from to → Covers later from to
covers_less later less given from to sum covers spares a even low high = may_write_first later less given a sum (covers a even low high) (spares a even low high)

-- a spawn: only the new hole may claim any
others_spare : (n from to : ℕ) (log : List Entry) → HolesSpare from to log → OthersSpare n from to log
others_spare n from to [] h = tt
others_spare n from to (number v ∷ log) h = others_spare n from to log h
others_spare n from to (hole H ∷ log) h = (λ differs. h.0, others_spare n from to log h.1)

pub spares_by_spawn : (s : Strand) (request : Request) (depth : ℕ) (kept : Owned) (from to : ℕ) → HolesSpare from to s.log
    → OthersSpare (hole_count s.log) from to (spawn s request depth kept).log
spares_by_spawn s request depth kept from to h = (λ differs. absurd (differs refl), others_spare (hole_count s.log) from to s.log h)

-- an answer: what it keeps aside is claimed in place of what was due
delivered_same : (target : ℕ) (e : End) (w : Owned) → claim (delivered target e w) ≡ claim w
delivered_same target (Done out None n) w = refl
delivered_same target (Done out (Some v) n) w = by (target == 0)
  where
    by : (none : Bool) → claim (if none then w else put w target (bits v)) ≡ claim w
    by true = refl
    by false = put_claim w target (bits v)
delivered_same target (Trapped out k n) w = refl
delivered_same target Spent w = refl

pub spares_by_answer : (log : List Entry) (n from to : ℕ) (e : End) (paid : Bool) (aside : Owned) → OthersSpare n from to log → Spares (claim aside) from to
    → HolesSpare from to (fill log n e paid aside)
spares_by_answer [] n from to e paid aside h spares = tt
spares_by_answer (number v ∷ log) n from to e paid aside h spares = spares_by_answer log n from to e paid aside h spares
spares_by_answer (hole H ∷ log) n from to e paid aside h spares = by (hole_count log == n) refl (spares_by_answer log n from to e paid aside h.1 spares)
  where
    older : (log : List Entry) → OthersSpare n from to log → hole_count log ≤ n → HolesSpare from to log
    older [] h few = tt
    older (number v ∷ log) h few = older log h few
    older (hole G ∷ log) h few = (h.0 (λ e. omega (arith, e, few)), older log h.1 (omega (arith, few)))

    by : (same : Bool) → (hole_count log == n) ≡ same → HolesSpare from to (fill log n e paid aside)
        → HolesSpare from to (if same then hole (filled_hole H e paid aside) ∷ log else hole H ∷ fill log n e paid aside)
    by true is rest = (subst (λ c. Spares c from to) (sym (delivered_same H.target e aside)) spares, older log h.1 (let f = eqb-true (hole_count log) n is in omega (arith, f)))
    by false is rest = (h.0 (λ f. eqb-false (hole_count log) n is (sym f)), rest)

-- a join: joined holes claim nothing
joined_spares : (H : Hole) (f : Filling) (from to : ℕ) → FilledDone f → Spares (hole_claim (joined_hole H) (paid_filling f)) from to
joined_spares H empty from to d = absurd d
joined_spares H (filled e b) from to d = λ a even low high. subst (λ c. Lacks c a) (sym no_words_claim) (lacks_none a)

pub spares_by_join : (log : List Entry) (first from to : ℕ) → AllFilledDone first log → OlderSpare first from to log → HolesSpare from to (joined_log first log)
spares_by_join [] first from to done h = tt
spares_by_join (number v ∷ log) first from to done h = spares_by_join log first from to done h
spares_by_join (hole H ∷ log) first from to done h = by (nat_le first (hole_count log)) refl (spares_by_join log first from to done.1 h.1)
  where
    by : (test : Bool) → nat_le first (hole_count log) ≡ test → HolesSpare from to (joined_log first log)
        → HolesSpare from to ((if test then hole (joined_hole H) else hole H) ∷ joined_log first log)
    by true is rest = (joined_spares H H.filling from to (done.0 (leb-true first (hole_count log) is)), rest)
    by false is rest = (h.0 (leb-false first (hole_count log) is), rest)
