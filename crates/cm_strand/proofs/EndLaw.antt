-- The end of a strand: what is decided is an end that the rules allow, with the words given back.
use Rattle.std.proofs.Common.{◌≡◌, ℕ, ◌+◌, Bool, true, false, List, [], ◌∷◌, ◌++◌, Option, None, Some, refl, sym, ap, ◌∙◌, subst, arith, inl, inr}
use Rattle.std.proofs.lemmas.Bool.{leb-true, leb-false}
use Rattle.std.specs.Prelude.{ℤ, ◌⊎◌, nat_le, if◌then◌else◌}
use Rattle.std.specs.Int.{w32, cast_signed}
use Rattle.std.proofs.lemmas.Int.{to_z-of_z}
use Rattle.cm_syntax.specs.Trap.{Trap}
use Rattle.cm_meaning.specs.End.{End, Done, Trapped, Spent}
use Rattle.cm_syntax.specs.Stack.{Stack, Destination}
use Rattle.cm_syntax.specs.declared.stmt.Program.{Program}
use Rattle.cm_syntax.specs.Rest.{Control}
use Rattle.cm_meaning.specs.Activation.{end_count}
use Rattle.cm_isa.specs.Address.{InstructionAt}
use Rattle.cm_isa.specs.Run.{Extends}
use Rattle.cm_isa.specs.Operation.{ecall}
use Rattle.cm_meaning.specs.Piece.{Own, returns, fails, runs_out, Sum, going as adds, trapped, spent, add_number, add_end, printed, child, awaited, told}
use Rattle.cm_meaning.specs.Piece.{Decides, Capped}
use Rattle.cm_meaning.specs.Meaning.{Ask, Note, Piece, begun, Fork, Reached, Stops}
use Rattle.cm_strand.specs.Piece.{Answer, piece, AllTold, log_sum}
use Rattle.cm_gen.specs.StandsFor.{Spot}
use Rattle.cm_gen.specs.FrameWord.{Holds}
use Rattle.cm_strand.specs.Owned.{Owned, Claim, ClaimSum, seen, claim, no_claim}
use Rattle.cm_gen.specs.StandsFor.{IsResult}
use Rattle.cm_meaning.specs.Loan.{HasUnjoined}
use Rattle.cm_strand.specs.Standing.{AreUsed, ShowsEnd, EmptyIn, ShowsFilling, ShowsLog, StopsBy, Proceeds, GivesWords, Answered}
use Rattle.cm_meaning.specs.Leads.{Leads}
use Rattle.cm_strand.proofs.KnownLaw.{CallsKept, KnownFacts}
use Rattle.cm_strand.proofs.FactLaw.{CodeFacts}
use Rattle.cm_meaning.specs.Piece as pieces
use Rattle.cm_isa.specs.declared.convention.TheConstants as reg
use Rattle.cm_strand.specs.Strand.{Request, Scope, Filling, empty, filled, Hole, Entry, number, hole, hole_count, going, ending, Strand, machine_of, hole_claim, aside_of, Outstanding, Owns}
use Rattle.cm_strand.specs.Turn.{within_start, decided, entries_sum, add_filling, own_end, end_of, used_by, AllFilled}
use Rattle.cm_strand.proofs.OwnedLaw.{extends_same, extends_through, claim_sum, claims_commute, claims_pair, claims_none, one_claim, sum_extends}
use Rattle.cm_meaning.proofs.LeadLaw.{ends_before}
use Rattle.cm_strand.proofs.ScopeLaw.{empty_of_placed, all_filled}
use Rattle.cm_strand.proofs.CarriedLaw.{Stands, reached_by}
use Rattle.cm_strand.proofs.ServiceLaw.{Ending, ending_, Served, served}
use Rattle.cm_strand.proofs.JoinLaw.{lies_same}

-- ---- what decides

capped : (start n : ℕ) (e : End) → Capped start n e (within_start start n e)
capped start n e = by (nat_le n start) refl
  where
    by : (test : Bool) → nat_le n start ≡ test → Capped start n e (if test then e else Spent)
    by true is = Capped.fits (leb-true n start is)
    by false is = Capped.passes (leb-false n start is)

decides : (start own : ℕ) (z : Sum) (o : Own) → Decides start own z o (decided start own z o)
decides start own (adds out n) (returns v) = Decides.all_done (capped start (own + n) (Done out v (own + n)))
decides start own (adds out n) (fails k) = Decides.own_trap (capped start (own + n) (Trapped out k (own + n)))
decides start own (adds out n) runs_out = Decides.own_spent
decides start own (trapped out k n) o = Decides.child_trap (capped start n (Trapped out k n))
decides start own spent o = Decides.child_spent

shown_same : (e : End) → ShowsEnd e e
shown_same (Done out v n) = (refl, refl, inr refl)
shown_same (Trapped out k n) = (refl, refl, refl)
shown_same Spent = tt

-- a value that is free
decided_free : (start own : ℕ) (z : Sum) (v u : Option ℤ) → (u ≡ None) ⊎ (u ≡ v) → ShowsEnd (decided start own z (returns v)) (decided start own z (returns u))
decided_free start own (adds out n) v u free = by (nat_le (own + n) start)
  where
    by : (test : Bool) → ShowsEnd (if test then Done out v (own + n) else Spent) (if test then Done out u (own + n) else Spent)
    by true = (refl, refl, free)
    by false = tt
decided_free start own (trapped out k n) v u free = shown_same (within_start start n (Trapped out k n))
decided_free start own spent v u free = tt

-- a strand that fails doesn't end by a value
not_done : (start own : ℕ) (z : Sum) (o : Own) → ((v : Option ℤ) → o ≡ returns v → ⊥) → (out : List ℤ) (v : Option ℤ) (n : ℕ) → decided start own z o ≡ Done out v n → ⊥
not_done start own (adds more m) (returns u) fails_ out v n e = fails_ u refl
not_done start own (adds more m) (fails k) fails_ out v n e = by (nat_le (own + m) start) e
  where
    by : (test : Bool) → ◌≡◌ {A = End} (if test then Trapped more k (own + m) else Spent) (Done out v n) → ⊥
    by true e = cc
    by false e = cc
not_done start own (adds more m) runs_out fails_ out v n e = spent_done e
  where
    spent_done : ◌≡◌ {A = End} Spent (Done out v n) → ⊥
    spent_done e = cc
not_done start own (trapped more k m) o fails_ out v n e = by (nat_le m start) e
  where
    by : (test : Bool) → ◌≡◌ {A = End} (if test then Trapped more k m else Spent) (Done out v n) → ⊥
    by true e = cc
    by false e = cc
not_done start own spent o fails_ out v n e = spent_done e
  where
    spent_done : ◌≡◌ {A = End} Spent (Done out v n) → ⊥
    spent_done e = cc

-- ---- logs

end_shown : (z : Sum) (own : ℕ) (e d : End) → ShowsEnd e d → add_end z own e ≡ add_end z own d
end_shown (adds out n) own (Done more v m) (Done other u k) h = ap (λ x. adds (out ++ x) (n + m)) h.0 ∙ ap (λ x. adds (out ++ other) (n + x)) h.1
end_shown (adds out n) own (Trapped more i m) (Trapped other j k) h =
    ap (λ x. trapped (out ++ x) i (own + n + m)) h.0 ∙ ap (λ x. trapped (out ++ other) x (own + n + m)) h.1 ∙ ap (λ x. trapped (out ++ other) j (own + n + x)) h.2
end_shown (adds out n) own Spent Spent h = refl
end_shown (adds out n) own (Done more v m) (Trapped other j k) h = absurd h
end_shown (adds out n) own (Done more v m) Spent h = absurd h
end_shown (adds out n) own (Trapped more i m) (Done other u k) h = absurd h
end_shown (adds out n) own (Trapped more i m) Spent h = absurd h
end_shown (adds out n) own Spent (Done other u k) h = absurd h
end_shown (adds out n) own Spent (Trapped other j k) h = absurd h
end_shown (trapped out k n) own e d h = refl
end_shown spent own e d h = refl

module _ (program : Program) (page : ℕ) where
  filling_sum : (H : Hole) (f : Filling) (x : Destination) (j : Bool) (r : Answer) (z : Sum) (own : ℕ) → ShowsFilling f j r
      → add_filling z own f ≡ pieces.add_answer Control Stack Destination z own r
  filling_sum H empty x false awaited z own h = refl
  filling_sum H empty x false (told d w) z own h = absurd h
  filling_sum H empty x true r z own h = absurd h
  filling_sum H (filled e b) x false awaited z own h = absurd h
  filling_sum H (filled e b) x false (told d w) z own h = end_shown z own e d h
  filling_sum H (filled (Done out v n) true) x true awaited z own h = absurd h
  filling_sum H (filled (Done out v n) true) x true (told d w) z own h = end_shown z own (Done out v n) d h
  filling_sum H (filled (Done out v n) false) x true r z own h = absurd h
  filling_sum H (filled (Trapped out k n) b) x true r z own h = absurd h
  filling_sum H (filled Spent b) x true r z own h = absurd h

  pub sums : (log : List Entry) (notes : List Note) → ShowsLog program page log notes → entries_sum log ≡ log_sum notes
  sums [] [] h = refl
  sums (number v ∷ log) (printed u ∷ notes) h = ap (λ z. add_number z v) (sums log notes h.1) ∙ ap (add_number (log_sum notes)) h.0
  sums (hole H ∷ log) (child d own x j q r ∷ notes) h =
      ap (λ z. add_filling z H.used H.filling) (sums log notes h.1) ∙ ap (λ n. add_filling (log_sum notes) n H.filling) h.0.used
      ∙ filling_sum H H.filling x j r (log_sum notes) own h.0.filling
  sums [] (n ∷ notes) h = absurd h
  sums (number v ∷ log) [] h = absurd h
  sums (number v ∷ log) (child d own x j q r ∷ notes) h = absurd h
  sums (hole H ∷ log) [] h = absurd h
  sums (hole H ∷ log) (printed u ∷ notes) h = absurd h

  filling_told : (H : Hole) (f : Filling) (x : Destination) (j : Bool) (d own : ℕ) (q : Ask) (r : Answer) (notes : List Note) → ShowsFilling f j r
      → (f ≡ empty → ⊥) → AllTold notes → AllTold (child d own x j q r ∷ notes)
  filling_told H empty x j d own q r notes h full t = absurd (full refl)
  filling_told H (filled e b) x false d own q awaited notes h full t = absurd h
  filling_told H (filled e b) x false d own q (told i w) notes h full t = t
  filling_told H (filled (Done out v n) true) x true d own q awaited notes h full t = absurd h
  filling_told H (filled (Done out v n) true) x true d own q (told i w) notes h full t = t
  filling_told H (filled (Done out v n) false) x true d own q r notes h full t = absurd h
  filling_told H (filled (Trapped out k n) b) x true d own q r notes h full t = absurd h
  filling_told H (filled Spent b) x true d own q r notes h full t = absurd h

  pub all_told : (log : List Entry) (notes : List Note) → ShowsLog program page log notes → AllFilled log → AllTold notes
  all_told [] [] h full = tt
  all_told (number v ∷ log) (printed u ∷ notes) h full = all_told log notes h.1 full
  all_told (hole H ∷ log) (child d own x j q r ∷ notes) h full = filling_told H H.filling x j d own q r notes h.0.filling full.0 (all_told log notes h.1 full.1)
  all_told [] (n ∷ notes) h full = absurd h
  all_told (number v ∷ log) [] h full = absurd h
  all_told (number v ∷ log) (child d own x j q r ∷ notes) h full = absurd h
  all_told (hole H ∷ log) [] h full = absurd h
  all_told (hole H ∷ log) (printed u ∷ notes) h full = absurd h

-- ---- words

pub owns_extends : (run all : Owned) (log : List Entry) → Owns run log all → Extends (seen run) (seen all)
owns_extends run all [] o = subst (λ k. Extends (seen run) (seen k)) (sym o) (extends_same (seen run))
owns_extends run all (number v ∷ log) o = owns_extends run all log o
owns_extends run all (hole H ∷ log) o = extends_through (seen run) (seen o.0) (seen all) (owns_extends run o.0 log o.1) (sum_extends o.0 (aside_of H H.filling) all o.2)

aside_claim : (H : Hole) (f : Filling) → (f ≡ empty → ⊥) → hole_claim H f ≡ claim (aside_of H f)
aside_claim H empty full = absurd (full refl)
aside_claim H (filled e b) full = refl

-- where all holes are filled, what a strand owns altogether is what it was given
pub owns_given : (run all : Owned) (log : List Entry) (out given : Claim) → Owns run log all → AllFilled log → Outstanding log out → ClaimSum (claim run) out given → given ≡ claim all
owns_given run all [] out given o full u sum =
    one_claim (claim run) no_claim given (claim run) (subst (λ k. ClaimSum (claim run) k given) u sum) (claims_commute no_claim (claim run) (claim run) (claims_none (claim run)))
    ∙ ap claim (sym o)
owns_given run all (number v ∷ log) out given o full u sum = owns_given run all log out given o full u sum
owns_given run all (hole H ∷ log) out given o full u sum =
    one_claim (claim o.0) (claim (aside_of H H.filling)) given (claim all)
    (subst (λ k. ClaimSum (claim o.0) k given) (aside_claim H H.filling full.0)
    (subst (λ k. ClaimSum k (hole_claim H H.filling) given) (owns_given run o.0 log u.0 moved.0 o.1 full.1 u.1 (claims_commute u.0 (claim run) moved.0 moved.1)) moved.2))
    (claim_sum o.0 (aside_of H H.filling) all o.2)
  where
    -- run + (hole + older) as (older + run) + hole
    moved : (t : Claim) × ClaimSum u.0 (claim run) t × ClaimSum t (hole_claim H H.filling) given
    moved = let x = claims_pair (hole_claim H H.filling) u.0 (claim run) out given u.2 (claims_commute (claim run) out given sum) in
        (x.0, x.1, claims_commute (hole_claim H H.filling) x.0 given x.2)

-- ---- scopes

-- where no child is unjoined no scope is open
none_open : (scopes : List Scope) (count : ℕ) (notes : List Note) → AreUsed scopes count notes → ((d : ℕ) → HasUnjoined d notes → ⊥) → scopes ≡ []
none_open [] count notes used lacks = refl
none_open (t ∷ scopes) count notes used lacks = absurd (lacks t.depth used.1)

-- ---- the law

module _ (program : Program) (page limit : ℕ) (input : List ℤ) (image : List ℕ) (first : Piece) (request : Request) where
  -- a piece that stops answers by what is decided
  stopped : (p : Piece) (o : Own) (out : List Note) → Leads program page input (begun request.ask) p → AllTold p.log → Stops program page input p.start p.own p.control p.held p.log o
      → Fork program page input (begun request.ask) (decided p.start p.own (log_sum p.log) o) p.held
  stopped p o out leads full stops = ends_before program page input (begun request.ask) p _ p.held leads
      (pieces.Fork.stops stops full (decides p.start p.own (log_sum p.log) o) (given (decided p.start p.own (log_sum p.log) o)))
    where
      given : (e : End) → pieces.Given Control Stack Destination e p.held p.held
      given (Done out v n) = refl
      given (Trapped out k n) = tt
      given Spent = tt

  own_of : Option Trap → Own
  own_of (Some t) = fails t
  own_of None = runs_out

  not_return : (k : Option Trap) (u : Option ℤ) → own_of k ≡ returns u → ⊥
  unfolding own_of
  not_return (Some t) u e = cc
  not_return None u e = cc

  own_is : (k : Option Trap) (v : ℤ) → own_end (ending k) v ≡ own_of k
  unfolding own_of
  own_is (Some t) v = refl
  own_is None v = refl

  stops_as : (k : Option Trap) (p : Piece) → StopsBy program page input image k p → Stops program page input p.start p.own p.control p.held p.log (own_of k)
  unfolding own_of
  stops_as (Some t) p h = h
  stops_as None p h = h

  no_words_due : (e : End) (w : Stack) (all : Owned) → ((out : List ℤ) (v : Option ℤ) (n : ℕ) → e ≡ Done out v n → ⊥) → GivesWords program page input image request e w all
  no_words_due (Done out v n) w all not = absurd (not out v n refl)
  no_words_due (Trapped out k n) w all not = tt
  no_words_due Spent w all not = tt

  -- by a trap or by want of ticks
  pub fails_as : (given : Claim) (s : Strand) (spot : Spot) (p : Piece) (kind : Option Trap) (v : ℤ) (all : Owned) → Stands program page limit input image first request given s spot p
      → s.course ≡ ending kind → s.scopes ≡ [] → Owns s.words s.log all → Answered program page input image request (end_of s v) all × (claim all ≡ given)
  fails_as given s spot p kind v all x e closed owns = (
    record {
      end_ = decided p.start p.own (log_sum p.log) (own_of kind);
      shows = subst (λ k. ShowsEnd k (decided p.start p.own (log_sum p.log) (own_of kind))) (sym end_is) (shown_same (decided p.start p.own (log_sum p.log) (own_of kind)));
      held = p.held;
      allowed = stopped p (own_of kind) [] x.from (all_told program page s.log p.log x.shows full) (stops_as kind p r.stops);
      words = no_words_due (decided p.start p.own (log_sum p.log) (own_of kind)) p.held all (not_done p.start p.own (log_sum p.log) (own_of kind) (not_return kind));
    },
    sym (owns_given s.words all s.log x.balances.0 given owns full x.balances.1 x.balances.2),
  )
    where
      r : Proceeds program page input image (ending kind) request s spot x.left p
      r = subst (λ k. Proceeds program page input image k request s spot x.left p) e x.proceeds

      full : AllFilled s.log
      full = all_filled s.log (subst (λ k. EmptyIn k s.log) closed r.hollow)

      used_is : used_by s ≡ p.own
      used_is = let t = x.ticks_are in let l = r.left_is in let b = x.start_is in omega (arith, t, l, b)

      end_is : end_of s v ≡ decided p.start p.own (log_sum p.log) (own_of kind)
      end_is = ap (λ n. decided n (used_by s) (entries_sum s.log) (own_end s.course v)) x.start_is
          ∙ ap (λ n. decided p.start n (entries_sum s.log) (own_end s.course v)) used_is
          ∙ ap (λ z. decided p.start p.own z (own_end s.course v)) (sums program page s.log p.log x.shows)
          ∙ ap (λ c. decided p.start p.own (log_sum p.log) (own_end c v)) e
          ∙ ap (λ o. decided p.start p.own (log_sum p.log) o) (own_is kind v)

  module _ (code : CodeFacts program page limit input image) (facts : KnownFacts program page limit input first)
      (asked : Reached program page input first (begun request.ask)) where
    -- by a value, at the end service
    pub returns_as : (given : Claim) (s : Strand) (spot : Spot) (p : Piece) (all : Owned) → Stands program page limit input image first request given s spot p
        → s.course ≡ going → InstructionAt image s.counter ecall → s.registers reg.SERVICE ≡ 0 → Owns s.words s.log all
        → (s.scopes ≡ []) × Answered program page input image request (end_of s (cast_signed w32 (s.registers reg.RESULT))) all × (claim all ≡ given)
    returns_as given s spot p all x e stops zero_ owns = (
      closed,
      record {
        end_ = end_;
        shows = subst (λ k. ShowsEnd k end_) (sym end_is) (decided_free p.start y.own (log_sum p.log) (Some (cast_signed w32 (s.registers reg.RESULT))) z.value (free z.value z.result));
        held = y.held;
        allowed = stopped q_ (returns z.value) [] y.carried.from (all_told program page s.log p.log x.shows full) (pieces.Stops.by_return z.is);
        words = gives end_;
      },
      sym (owns_given s.words all s.log x.balances.0 given owns full x.balances.1 x.balances.2),
    )
      where
        y : Served program page limit input image first request code facts asked spot s p
        y = served program page limit input image first request code facts asked given s spot p x e stops

        z : Ending program page input image y.spot y.left y.control y.held (machine_of s)
        z = ending_ program page input image y.spot y.left y.control y.held (machine_of s) y.at zero_

        q_ : Piece
        q_ = piece p.start y.own y.control y.held p.log

        closed : s.scopes ≡ []
        closed = none_open s.scopes (hole_count s.log) p.log y.carried.scopes_used
            (λ d u. facts.ended q_ z.value d (reached_by program page limit input image first request asked q_ y.carried.from) z.is u)

        full : AllFilled s.log
        full = all_filled s.log (subst (λ k. EmptyIn k s.log) closed (empty_of_placed program page s.scopes y.control.calls y.spot.frames s.log p.log y.carried.shows y.carried.placed))

        end_ : End
        end_ = decided p.start y.own (log_sum p.log) (returns z.value)

        free : (u : Option ℤ) → IsResult u (s.registers reg.RESULT) → (u ≡ None) ⊎ (u ≡ Some (cast_signed w32 (s.registers reg.RESULT)))
        free None h = inl refl
        free (Some u) h = inr (ap Some (sym (ap (cast_signed w32) h.0 ∙ to_z-of_z w32 u h.1)))

        used_is : used_by s ≡ y.own
        used_is = let t = y.carried.ticks_are in let l = z.left_is in let b = x.start_is in omega (arith, t, l, b)

        end_is : end_of s (cast_signed w32 (s.registers reg.RESULT)) ≡ decided p.start y.own (log_sum p.log) (returns (Some (cast_signed w32 (s.registers reg.RESULT))))
        end_is = ap (λ n. decided n (used_by s) (entries_sum s.log) (own_end s.course (cast_signed w32 (s.registers reg.RESULT)))) x.start_is
            ∙ ap (λ n. decided p.start n (entries_sum s.log) (own_end s.course (cast_signed w32 (s.registers reg.RESULT)))) used_is
            ∙ ap (λ k. decided p.start y.own k (own_end s.course (cast_signed w32 (s.registers reg.RESULT)))) (sums program page s.log p.log x.shows)
            ∙ ap (λ c. decided p.start y.own (log_sum p.log) (own_end c (cast_signed w32 (s.registers reg.RESULT)))) e

        none_left : end_count y.control.rest ≡ 0
        none_left = subst (CallsKept y.control) z.is y.step_keeps

        same : (request.ask.call.calls ≡ y.control.calls) × (request.spot.frames ≡ y.spot.frames)
        same = lies_same y.control.calls y.spot.frames request.ask.call.calls request.spot.frames y.carried.rooted
            (let b = y.carried.base in let n = none_left in omega (arith, b, n))

        held_ : Holds program page request.ask.call.calls request.spot.frames y.held (seen all)
        held_ = subst (λ k. Holds program page k request.spot.frames y.held (seen all)) (sym same.0)
            (subst (λ k. Holds program page y.control.calls k y.held (seen all)) (sym same.1)
            (code.holds_more y.control.calls y.spot.frames y.held (seen s.words) (seen all) (owns_extends s.words all s.log owns) z.holds))

        gives : (i : End) → GivesWords program page input image request i y.held all
        gives (Done out u n) = held_
        gives (Trapped out k n) = tt
        gives Spent = tt
