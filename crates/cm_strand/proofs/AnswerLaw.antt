-- A collected and a popped answer.
use Rattle.std.proofs.Common.{◌≡◌, ℕ, ◌+◌, ◌-◌, ◌≤◌, true, false, List, [], ◌∷◌, Option, None, Some, refl, sym, ap, subst, arith, inl}
use Rattle.std.specs.Prelude.{ℤ}
use Rattle.cm_meaning.specs.End.{End, Done, Trapped, Spent}
use Rattle.cm_syntax.specs.Stack.{Stack}
use Rattle.cm_syntax.specs.declared.stmt.Program.{Program}
use Rattle.cm_isa.specs.Address.{InstructionAt}
use Rattle.cm_isa.specs.Register.{with_register}
use Rattle.cm_meaning.specs.Piece.{fails, runs_out}
use Rattle.cm_meaning.specs.Meaning.{Note, Piece, begun, Fork, Goes, Reached}
use Rattle.cm_strand.specs.Piece.{piece}
use Rattle.cm_gen.specs.StandsFor.{Spot, ExactAt, with_words}
use Rattle.cm_strand.specs.Owned.{Owned, Claim, ClaimSum, seen}
use Rattle.cm_strand.specs.Walk.{rest}
use Rattle.cm_strand.specs.Standing.{ShowsEnd, AreUsed, IsGoing, Proceeds, Waits, GivesWords, Answered, IsSorted}
use Rattle.cm_meaning.specs.Loan.{HasUnjoined}
use Rattle.cm_meaning.specs.Leads.{Leads}
use Rattle.cm_strand.proofs.FactLaw.{CodeFacts}
use Rattle.cm_strand.proofs.KnownLaw.{KnownFacts}
use Rattle.cm_meaning.specs.Piece as pieces
use Rattle.cm_isa.specs.declared.convention.TheConstants as reg
use Rattle.cm_gen.specs.declared.form.Form.TheVariants.{Cilk}
use Rattle.cm_strand.specs.Strand.{Request, empty, Hole, Entry, Scope, Course, going, ending, Strand, machine_of, hole_count, paid, done_ticks, Balances}
use Rattle.cm_strand.specs.Turn.{fill, HoleAt, collect, pop, course_behind}
use Rattle.cm_strand.proofs.OwnedLaw.{sum_extends}
use Rattle.cm_meaning.proofs.LeadLaw.{both_lead, one_rule}
use Rattle.cm_strand.proofs.ScopeLaw.{empty_of_placed, empty_behind}
use Rattle.cm_strand.proofs.CarriedLaw.{Stands, Behind, runs_of, reached_by}
use Rattle.cm_strand.proofs.FillLaw.{IsNotDone, stops_hears, fill_balance, fill_count, fill_paid, Heard, heard}

-- scopes are used still
pub used_by_unjoined : (scopes : List Scope) (count later : ℕ) (notes more : List Note) → count ≡ later → ((d : ℕ) → HasUnjoined d notes → HasUnjoined d more)
    → AreUsed scopes count notes → AreUsed scopes later more
used_by_unjoined [] count later notes more e on u = tt
used_by_unjoined (s ∷ scopes) count later notes more e on u =
    (let f = u.0 in omega (arith, e, f), on s.depth u.1, used_by_unjoined scopes count later notes more e on u.2)

-- the ticks of an end by a value are within those at the start
module _ (program : Program) (page : ℕ) (input : List ℤ) where
  decided_within : (start own : ℕ) (z : pieces.Sum) (o : pieces.Own) (out : List ℤ) (v : Option ℤ) (n : ℕ) → pieces.Decides start own z o (Done out v n) → n ≤ start
  decided_within start own _ _ _ _ _ (pieces.Decides.all_done (pieces.Capped.fits l)) = l
  decided_within start own _ _ _ v _ (pieces.Decides.own_trap x) = elim x [ ]
  decided_within start own _ o _ v _ (pieces.Decides.child_trap x) = elim x [ ]

  pub done_within : (p : Piece) (out : List ℤ) (v : Option ℤ) (n : ℕ) (w : Stack) → Fork program page input p (Done out v n) w → n ≤ p.start
  done_within p out v n w (pieces.Fork.stops s a d g) = decided_within _ _ _ _ out v n d
  done_within p out v n w (pieces.Fork.goes {q = q} r f) = let h = done_within q out v n w f in let k = same p q r in omega (arith, h, k)
    where
      same : (p q : Piece) → Goes program page input p q → q.start ≡ p.start
      same _ _ (pieces.Goes.silently e) = refl
      same _ _ (pieces.Goes.ticking e c l) = refl
      same _ _ (pieces.Goes.showing e) = refl
      same _ _ (pieces.Goes.joining e c k l) = refl
      same _ _ (pieces.Goes.parting e c) = refl
      same _ _ (pieces.Goes.hearing h) = refl
      same _ _ (pieces.Goes.returning b) = refl

module _ (program : Program) (page limit : ℕ) (input : List ℤ) (image : List ℕ) (first : Piece) (request : Request)
    (code : CodeFacts program page limit input image) (facts : KnownFacts program page limit input first)
    (asked : Reached program page input first (begun request.ask)) where
  -- an answer with the words that are kept aside alone
  sorted_answer : (H : Hole) (e : End) (w aside back old new : Owned) (more : Claim) → Answered program page input image H.request e w
      → IsSorted program page input image H w aside back old new more → Answered program page input image H.request e aside
  sorted_answer H e w aside back old new more answer sorted = record {
    end_ = answer.end_;
    shows = answer.shows;
    held = answer.held;
    allowed = answer.allowed;
    words = by answer.end_ answer.words;
  }
    where
      by : (i : End) → GivesWords program page input image H.request i answer.held w → GivesWords program page input image H.request i answer.held aside
      by (Done out v n) g = code.holds_needs H.request.ask.call.calls H.request.spot.frames answer.held (seen w) (seen aside) g (sorted.of_frames answer.held g)
      by (Trapped out k n) g = tt
      by Spent g = tt

  pub collects_answer : (given given_later more : Claim) (s : Strand) (spot : Spot) (p : Piece) (n : ℕ) (H : Hole) (e : End) (w aside back words : Owned)
      → Stands program page limit input image first request given s spot p → HoleAt s.log n H → H.filling ≡ empty → Answered program page input image H.request e w
      → IsSorted program page input image H w aside back s.words words more → ClaimSum given more given_later
      → Behind program page limit input image first request given_later spot (collect s n e aside words) p
  collects_answer given given_later more s spot p n H e w aside back words x at none whole_answer sorted sum = record {
    spot = spot;
    walk = rest;
    to = to_;
    leads = one_rule program page input p to_ rule;
    stands = record {
      from = both_lead program page input (begun request.ask) p to_ x.from (one_rule program page input p to_ rule);
      left = x.left;
      start_is = x.start_is;
      few = x.few;
      ticks_are = let t = x.ticks_are in let f = fill_paid s.log n H e false aside at none in omega (arith, t, f);
      shows = y.shows;
      balances = fill_balance s.log n H e false w aside back s.words words more given given_later at none sorted.due_is sorted.sum sorted.run_sum sorted.whole x.balances sum;
      proceeds = by s.course x.proceeds;
    };
  }
    where
      answer : Answered program page input image H.request e aside
      answer = sorted_answer H e w aside back s.words words more whole_answer sorted

      y : Heard program page limit input image first facts p (reached_by program page limit input image first request asked p x.from) e s.log p.log (fill s.log n e false aside)
      y = heard program page limit input image first facts p (reached_by program page limit input image first request asked p x.from) s.log p.log n H e false aside
          (λ m h. h) x.shows at none sorted.whole answer

      to_ : Piece
      to_ = piece p.start p.own p.control p.held y.later

      rule : Goes program page input p to_
      rule = pieces.Goes.hearing y.hears

      by : (k : Course) → Proceeds program page input image k request s spot x.left p → Proceeds program page input image k request (collect s n e aside words) spot x.left to_
      by going r = record {
        stands = code.within_more spot x.left p.control p.held (machine_of s) (seen words) r.stands (sum_extends s.words back words sorted.run_sum);
        frames = r.frames;
        opens = r.opens;
        scopes_used = used_by_unjoined s.scopes (hole_count s.log) (hole_count (fill s.log n e false aside)) p.log y.later (sym (fill_count s.log n e false aside)) y.unjoined r.scopes_used;
        placed = y.placed s.scopes p.control.calls spot.frames r.placed;
        rooted = r.rooted;
        base = r.base;
      }
      by (ending None) r = record { left_is = r.left_is; stops = stops_hears program page input p.start p.own p.control p.held p.log y.later runs_out r.stops y.hears; hollow = empty_behind s.scopes s.log n e false aside r.hollow }
      by (ending (Some k)) r = record { left_is = r.left_is; stops = stops_hears program page input p.start p.own p.control p.held p.log y.later (fails k) r.stops y.hears; hollow = empty_behind s.scopes s.log n e false aside r.hollow }

  -- ---- a popped answer

  answer_within : (q : Request) (out : List ℤ) (v : Option ℤ) (n : ℕ) (w : Owned) → Answered program page input image q (Done out v n) w → n ≤ q.ask.start
  answer_within q out v n w answer = by answer.end_ answer.shows answer.allowed
    where
      by : (i : End) → ShowsEnd (Done out v n) i → Fork program page input (begun q.ask) i answer.held → n ≤ q.ask.start
      by (Done more u m) shows fork = let h = done_within program page input (begun q.ask) more u m answer.held fork in let e = shows.1 in omega (arith, h, e)
      by (Trapped more k m) shows fork = absurd shows
      by Spent shows fork = absurd shows

  pub pops_answer : (given given_later more : Claim) (s : Strand) (spot : Spot) (p : Piece) (H : Hole) (log : List Entry) (e : End) (w aside back words : Owned)
      → Waits program page input image request given s H log spot p → Answered program page input image H.request e w
      → IsSorted program page input image H w aside back s.words words more → ClaimSum given more given_later
      → Behind program page limit input image first request given_later spot (pop s (hole_count log) e aside words) p
  pops_answer given given_later more s spot p H log e w aside back words waits whole_answer sorted sum = record {
    spot = spot;
    walk = rest;
    to = to_;
    leads = one_rule program page input p to_ rule;
    stands = by e answer refl;
  }
    where
      x : Stands program page limit input image first request given s spot p
      x = waits.stands

      n : ℕ
      n = hole_count log

      answer : Answered program page input image H.request e aside
      answer = sorted_answer H e w aside back s.words words more whole_answer sorted

      at : HoleAt s.log n H
      at = subst (λ k. HoleAt k n H) (sym waits.log_is) (inl (refl, refl))

      r : IsGoing program page input image request s spot x.left p
      r = runs_of program page limit input image first request given s spot p x waits.course_is

      y : Heard program page limit input image first facts p (reached_by program page limit input image first request asked p x.from) e s.log p.log (fill s.log n e true aside)
      y = heard program page limit input image first facts p (reached_by program page limit input image first request asked p x.from) s.log p.log n H e true aside
          (λ m h. h) x.shows at waits.empty_ sorted.whole answer

      to_ : Piece
      to_ = piece p.start p.own p.control p.held y.later

      rule : Goes program page input p to_
      rule = pieces.Goes.hearing y.hears

      from_ : Leads program page input (begun request.ask) to_
      from_ = both_lead program page input (begun request.ask) p to_ x.from (one_rule program page input p to_ rule)

      balances_ : Balances given_later words (fill s.log n e true aside)
      balances_ = fill_balance s.log n H e true w aside back s.words words more given given_later at waits.empty_ sorted.due_is sorted.sum sorted.run_sum sorted.whole x.balances sum

      paid_ : paid (fill s.log n e true aside) ≡ paid s.log + done_ticks e
      paid_ = fill_paid s.log n H e true aside at waits.empty_

      fallen_ : IsNotDone e → Stands program page limit input image first request given_later (record (pop s n e aside words) { course = ending None }) spot to_
      fallen_ not = record {
        from = from_;
        left = x.left;
        start_is = x.start_is;
        few = x.few;
        ticks_are = let t = x.ticks_are in let f = paid_ in let g = none_of e not in omega (arith, t, f, g);
        shows = y.shows;
        balances = balances_;
        proceeds = record {
          left_is = let a = waits.exact.left_is in let b = waits.left_is in let g = none_of e not in omega (arith, a, b, g);
          stops = pieces.Stops.by_child (y.fallen not);
          hollow = empty_behind s.scopes s.log n e true aside (empty_of_placed program page s.scopes p.control.calls spot.frames s.log p.log x.shows r.placed);
        };
      }
        where
          none_of : (e : End) → IsNotDone e → done_ticks e ≡ 0
          none_of (Done out v n) not = absurd not
          none_of (Trapped out k n) not = refl
          none_of Spent not = refl

      by : (i : End) → Answered program page input image H.request i aside → e ≡ i → Stands program page limit input image first request given_later (pop s n e aside words) spot to_
      by (Done out v m) answer_ is = record {
        from = from_;
        left = x.left - m;
        start_is = x.start_is;
        few = x.few;
        ticks_are = let t = x.ticks_are in let f = paid_ in let g = ap done_ticks is in let l = within_ in omega (arith, t, f, g, l);
        shows = y.shows;
        balances = balances_;
        proceeds = subst (λ k. Proceeds program page input image k request (pop s n e aside words) spot (x.left - m) to_) (sym (ap course_behind is)) (record {
          stands = inl (subst (λ k. ExactAt program Cilk page input (InstructionAt image) spot (x.left - m) p.control p.held
              (record (machine_of s) { registers = with_register s.registers reg.TICKS k; words = seen words })) ticks_
              (code.other_ticks spot H.request.ask.start (x.left - m) p.control p.held (with_words (machine_of s) (seen words))
              (code.exact_more spot H.request.ask.start p.control p.held (machine_of s) (seen words) waits.exact (sum_extends s.words back words sorted.run_sum))));
          frames = r.frames;
          opens = r.opens;
          scopes_used = used_by_unjoined s.scopes (hole_count s.log) (hole_count (fill s.log n e true aside)) p.log y.later (sym (fill_count s.log n e true aside)) y.unjoined r.scopes_used;
          placed = y.placed s.scopes p.control.calls spot.frames r.placed;
          rooted = r.rooted;
          base = r.base;
        });
      }
        where
          within_ : m ≤ x.left
          within_ = let h = answer_within H.request out v m aside answer_ in let k = waits.left_is in omega (arith, h, k)

          ticks_ : x.left - m ≡ s.registers reg.TICKS - done_ticks e
          ticks_ = let a = waits.exact.left_is in let b = waits.left_is in let g = ap done_ticks is in omega (arith, a, b, g)
      by (Trapped out k m) answer_ is = subst (λ c. Stands program page limit input image first request given_later (record (pop s n e aside words) { course = c }) spot to_)
          (sym (ap course_behind is)) (fallen_ (subst IsNotDone (sym is) tt))
      by Spent answer_ is = subst (λ c. Stands program page limit input image first request given_later (record (pop s n e aside words) { course = c }) spot to_)
          (sym (ap course_behind is)) (fallen_ (subst IsNotDone (sym is) tt))
