-- Rows of pieces: a derivation of the rules that is computed.
use Rattle.std.proofs.Common.{Option, ◌≡◌, ℕ, zero, suc, ◌+◌, ◌<◌, ◌≤◌, List, [], ◌∷◌, None, Some, refl, sym, ap, ◌∙◌, subst, inl, inr}
use Rattle.std.proofs.lemmas.Bool.Decides.{eqb_tells}
use Rattle.std.proofs.lemmas.Bool.{ltb-true, ltb-false, leb-true, leb-false}
use Rattle.std.specs.Prelude.{◌-◌, Bool, true, false, nat_lt, nat_le, ◌==◌, ◌&&◌, if◌then◌else◌, ℤ, ⊤}
use Rattle.cm_syntax.specs.declared.stmt.Program.{Program}
use Rattle.cm_syntax.specs.Label.{silent, ticks, prints, spawns, syncs, traps, ends, stuck}
use Rattle.cm_syntax.specs.Stack.{Stack, Destination, StackSum, SharesBack, settle}
use Rattle.cm_syntax.specs.Rest.{Control}
use Rattle.cm_syntax.specs.Step.{Move, step, depth}
use Rattle.cm_meaning.proofs.BesideLaw.{and_true}
use Rattle.cm_meaning.specs.End.{End, Done, Trapped, Spent}
use Rattle.cm_meaning.specs.Meaning.{Ask, Note, Piece, Fork, Reached}
use Rattle.cm_meaning.specs.Piece.{counted, Own, returns, fails, runs_out, Sum, going, trapped, spent, Capped, fits, passes, Decides, all_done, own_trap, own_spent, child_trap, child_spent, told, awaited, printed, child, piece, log_sum, Counts, none, past, skipped, AllTold, Fallen, by_trap, by_spent, later, Given, Collects, before, other, Stops, by_return, by_tick, by_child, silently, ticking, showing, joining, parting, hearing, this, stops, goes, then}

abbrev pub Log : Type 0
Log = List Note

-- ---- a derivation that is computed

-- what comes of a piece, if the computing finds it
pub data Found : Type 0 where
  nothing : Found
  found : End → Stack → Found

-- every end of a piece whose log has no joined child
abbrev pub end_of : (start own : ℕ) → Sum → Own → End
end_of start own (going out n) (returns v) = if nat_le (own + n) start then Done out v (own + n) else Spent
end_of start own (going out n) (fails k) = if nat_le (own + n) start then Trapped out k (own + n) else Spent
end_of start own (going out n) runs_out = Spent
end_of start own (trapped out k n) o = if nat_le n start then Trapped out k n else Spent
end_of start own spent o = Spent

capped : (start n : ℕ) (e : End) → Capped start n e (if nat_le n start then e else Spent)
capped start n e = by (nat_le n start) refl
  where
    by : (b : Bool) → nat_le n start ≡ b → Capped start n e (if b then e else Spent)
    by true l = fits (leb-true n start l)
    by false l = passes (leb-false n start l)

pub decides : (start own : ℕ) (z : Sum) (o : Own) → Decides start own z o (end_of start own z o)
decides start own (going out n) (returns v) = all_done (capped start (own + n) (Done out v (own + n)))
decides start own (going out n) (fails k) = own_trap (capped start (own + n) (Trapped out k (own + n)))
decides start own (going out n) runs_out = own_spent
decides start own (trapped out k n) o = child_trap (capped start n (Trapped out k n))
decides start own spent o = child_spent

-- each joined child is Done, and their ticks together
abbrev pub is_fine : Log → Bool
is_fine [] = true
is_fine (child d o x true q (told (Done out v m) w) ∷ log) = is_fine log
is_fine (child d o x true q r ∷ log) = false
is_fine (n ∷ log) = is_fine log

abbrev pub joined_count : Log → ℕ
joined_count [] = 0
joined_count (child d o x true q (told (Done out v m) w) ∷ log) = joined_count log + m
joined_count (n ∷ log) = joined_count log

pub counts_joined : (log : Log) → is_fine log ≡ true → Counts Control Stack Destination log (joined_count log)
counts_joined [] e = none
counts_joined (printed v ∷ log) e = past (counts_joined log e)
counts_joined (child d o x true q (told (Done out v m) w) ∷ log) e = counted (counts_joined log e)
counts_joined (child d o x true q (told (Trapped out k m) w) ∷ log) e = cc e
counts_joined (child d o x true q (told Spent w) ∷ log) e = cc e
counts_joined (child d o x true q awaited ∷ log) e = cc e
counts_joined (child d o x false q r ∷ log) e = skipped (counts_joined log e)

-- some child has fallen
abbrev pub has_fallen : Log → Bool
has_fallen [] = false
has_fallen (child d o x j q (told (Trapped out k m) w) ∷ log) = true
has_fallen (child d o x j q (told Spent w) ∷ log) = true
has_fallen (n ∷ log) = has_fallen log

pub fallen : (log : Log) → has_fallen log ≡ true → Fallen Control Stack Destination log
fallen [] e = cc e
fallen (child d o x j q (told (Trapped out k m) w) ∷ log) e = by_trap
fallen (child d o x j q (told Spent w) ∷ log) e = by_spent
fallen (child d o x j q (told (Done out v m) w) ∷ log) e = later (fallen log e)
fallen (child d o x j q awaited ∷ log) e = later (fallen log e)
fallen (printed v ∷ log) e = later (fallen log e)

-- no unjoined child of the frame at this depth
abbrev no_child_at : (d : ℕ) → Log → Bool
no_child_at d [] = true
no_child_at d (printed v ∷ log) = no_child_at d log
no_child_at d (child b o x true q r ∷ log) = no_child_at d log
no_child_at d (child b o x false q r ∷ log) = if b == d then false else no_child_at d log

collects_none : (d : ℕ) (step_ : Control → Stack → Move) (log : Log) (h : Stack) → no_child_at d log ≡ true → Collects Control Stack Destination StackSum SharesBack settle depth step_ d log h log h
collects_none d step_ [] h e = none
collects_none d step_ (printed v ∷ log) h e = past (collects_none d step_ log h e)
collects_none d step_ (child b o x true q r ∷ log) h e = before (collects_none d step_ log h e)
collects_none d step_ (child b o x false q r ∷ log) h e = elim (eqb_tells b d) [
  | inl one ↦ let f : (b == d) ≡ true = one.0 in cc (sym (ap (λ z. if z then false else no_child_at d log) f) ∙ e)
  | inr ne ↦ let f : (b == d) ≡ false = ne.0 in other ne.1 (collects_none d step_ log h (sym (ap (λ z. if z then false else no_child_at d log) f) ∙ e))
]

module _ (program : Program) (page : ℕ) (input : List ℤ) where
  abbrev Forks : Piece → End → Stack → Type 0
  Forks = Fork program page input

  abbrev piece_of : (start own : ℕ) → Control → Stack → Log → Piece
  piece_of = piece Control Stack Destination

  abbrev sum_of : Log → Sum
  sum_of = log_sum Control Stack Destination

  abbrev asked : (start : ℕ) → Control → Stack → Ask
  asked start call lent = record { start = start; call = call; lent = lent }

  -- the piece is at its end
  abbrev stop : (start own : ℕ) → Stack → Log → Own → Found
  stop start own h log o = found (end_of start own (sum_of log) o) h

  abbrev when : Bool → Found → Found
  when true f = f
  when false f = nothing

  -- Each child is asked at its spawn. A join is done where a child has fallen, or where it has no child to wait for.
  abbrev follow_on : ((start own : ℕ) → Control → Stack → Log → Found) → (start own d : ℕ) → Stack → Log → Move → Found
  follow_on go start own d h log (silent t g) = go start own t g log
  follow_on go start own d h log (ticks t g) = if nat_lt (own + joined_count log) start then go start (suc own) t g log else stop start own h log runs_out
  follow_on go start own d h log (prints v t g) = go start own t g (printed v ∷ log)
  follow_on go start own d h log (spawns call lent x t g) = elim (go (start - (own + joined_count log)) 0 call lent []) [
    | nothing ↦ nothing
    | found e w ↦ go start own t g (child d own x false (asked (start - (own + joined_count log)) call lent) (told e w) ∷ log)
  ]
  follow_on go start own d h log (syncs t) = if has_fallen log then stop start own h log runs_out
      else when (no_child_at d log && nat_le (own + joined_count log) start) (go start own t h log)
  follow_on go start own d h log (traps k) = stop start own h log (fails k)
  follow_on go start own d h log (ends v) = stop start own h log (returns v)
  follow_on go start own d h log stuck = nothing

  abbrev pub follow : (steps : ℕ) → (start own : ℕ) → Control → Stack → Log → Found
  follow zero start own c h log = nothing
  follow (suc s) start own c h log = follow_on (follow s) start own (depth c) h log (step program page input c h)

  abbrev pub Is : Found → Piece → Type 0
  Is nothing p = ⊤
  Is (found e w) p = Forks p e w

  module _ (go : (start own : ℕ) → Control → Stack → Log → Found) (is : (start own : ℕ) (c : Control) (h : Stack) (log : Log) → AllTold Control Stack Destination log → is_fine log ≡ true → Is (go start own c h log) (piece_of start own c h log)) where
    given : (e : End) (h : Stack) → Given Control Stack Destination e h h
    given (Done out v n) h = refl
    given (Trapped out k n) h = tt
    given Spent h = tt

    stopped : (start own : ℕ) (c : Control) (h : Stack) (log : Log) (o : Own) → AllTold Control Stack Destination log → Stops Control Stack Destination StackSum SharesBack settle depth (step program page input) start own c h log o → Is (stop start own h log o) (piece_of start own c h log)
    stopped start own c h log o t s = stops s t (decides start own (sum_of log) o) (given _ h)

    on_silent : (start own : ℕ) (c t : Control) (h g : Stack) (log : Log) → step program page input c h ≡ silent t g → (f : Found) → Is f (piece_of start own t g log) → Is f (piece_of start own c h log)
    on_silent start own c t h g log e nothing i = tt
    on_silent start own c t h g log e (found r w) i = goes (silently e) i

    on_print : (start own : ℕ) (v : ℤ) (c t : Control) (h g : Stack) (log : Log) → step program page input c h ≡ prints v t g → (f : Found) → Is f (piece_of start own t g (printed v ∷ log)) → Is f (piece_of start own c h log)
    on_print start own v c t h g log e nothing i = tt
    on_print start own v c t h g log e (found r w) i = goes (showing e) i

    on_tick : (start own : ℕ) (c t : Control) (h g : Stack) (log : Log) → step program page input c h ≡ ticks t g → Counts Control Stack Destination log (joined_count log) → own + joined_count log < start
        → (f : Found) → Is f (piece_of start (suc own) t g log) → Is f (piece_of start own c h log)
    on_tick start own c t h g log e n l nothing i = tt
    on_tick start own c t h g log e n l (found r w) i = goes (ticking e n l) i

    on_join : (start own : ℕ) (c t : Control) (h : Stack) (log : Log) → step program page input c h ≡ syncs t → no_child_at (depth c) log ≡ true → Counts Control Stack Destination log (joined_count log)
        → own + joined_count log ≤ start → (f : Found) → Is f (piece_of start own t h log) → Is f (piece_of start own c h log)
    on_join start own c t h log e k n l nothing i = tt
    on_join start own c t h log e k n l (found r w) i = goes (joining e (collects_none (depth c) (step program page input) log h k) n l) i

    on_spawn : (start own : ℕ) (c t call : Control) (h g lent : Stack) (x : Destination) (log : Log) → step program page input c h ≡ spawns call lent x t g → Counts Control Stack Destination log (joined_count log)
        → (e : End) (w : Stack) → Forks (piece_of (start - (own + joined_count log)) 0 call lent []) e w
        → (f : Found) → Is f (piece_of start own t g (child (depth c) own x false (asked (start - (own + joined_count log)) call lent) (told e w) ∷ log)) → Is f (piece_of start own c h log)
    on_spawn start own c t call h g lent x log s n e w k nothing i = tt
    on_spawn start own c t call h g lent x log s n e w k (found r y) i = goes (parting s n) (goes (hearing (this k)) i)

    follow_is : (start own : ℕ) (c : Control) (h : Stack) (log : Log) → AllTold Control Stack Destination log → is_fine log ≡ true → Is (follow_on go start own (depth c) h log (step program page input c h)) (piece_of start own c h log)
    follow_is start own c h log told_ j = by (step program page input c h) refl
      where
        by_join_ : (t : Control) → step program page input c h ≡ syncs t → (b : Bool) → (no_child_at (depth c) log && nat_le (own + joined_count log) start) ≡ b → Is (when b (go start own t h log)) (piece_of start own c h log)
        by_join_ t e true f = let both_ = and_true (no_child_at (depth c) log) (nat_le (own + joined_count log) start) f in
            on_join start own c t h log e both_.0 (counts_joined log j) (leb-true (own + joined_count log) start both_.1) (go start own t h log) (is start own t h log told_ j)
        by_join_ t e false f = tt

        by_sync_ : (t : Control) → step program page input c h ≡ syncs t → (b : Bool) → has_fallen log ≡ b
            → Is (if b then stop start own h log runs_out else when (no_child_at (depth c) log && nat_le (own + joined_count log) start) (go start own t h log)) (piece_of start own c h log)
        by_sync_ t e true f = stopped start own c h log runs_out told_ (by_child (fallen log f))
        by_sync_ t e false f = by_join_ t e (no_child_at (depth c) log && nat_le (own + joined_count log) start) refl

        by_tick_ : (t : Control) (g : Stack) → step program page input c h ≡ ticks t g → (b : Bool) → nat_lt (own + joined_count log) start ≡ b
            → Is (if b then go start (suc own) t g log else stop start own h log runs_out) (piece_of start own c h log)
        by_tick_ t g e true l = on_tick start own c t h g log e (counts_joined log j) (ltb-true (own + joined_count log) start l) (go start (suc own) t g log) (is start (suc own) t g log told_ j)
        by_tick_ t g e false l = stopped start own c h log runs_out told_ (by_tick e (counts_joined log j) (ltb-false (own + joined_count log) start l))

        by_spawn_ : (t call : Control) (g lent : Stack) (x : Destination) → step program page input c h ≡ spawns call lent x t g → (f : Found) → Is f (piece_of (start - (own + joined_count log)) 0 call lent [])
            → Is (elim f [ nothing ↦ nothing | found e w ↦ go start own t g (child (depth c) own x false (asked (start - (own + joined_count log)) call lent) (told e w) ∷ log) ]) (piece_of start own c h log)
        by_spawn_ t call g lent x e nothing i = tt
        by_spawn_ t call g lent x e (found r w) i = on_spawn start own c t call h g lent x log e (counts_joined log j) r w i (go start own t g _) (is start own t g _ told_ j)

        by : (y : Move) → step program page input c h ≡ y → Is (follow_on go start own (depth c) h log y) (piece_of start own c h log)
        by (silent t g) e = on_silent start own c t h g log e (go start own t g log) (is start own t g log told_ j)
        by (ticks t g) e = by_tick_ t g e (nat_lt (own + joined_count log) start) refl
        by (prints v t g) e = on_print start own v c t h g log e (go start own t g (printed v ∷ log)) (is start own t g (printed v ∷ log) told_ j)
        by (spawns call lent x t g) e = by_spawn_ t call g lent x e (go (start - (own + joined_count log)) 0 call lent []) (is (start - (own + joined_count log)) 0 call lent [] tt refl)
        by (syncs t) e = by_sync_ t e (has_fallen log) refl
        by (traps k) e = stopped start own c h log (fails k) told_ (by_trap e)
        by (ends v) e = stopped start own c h log (returns v) told_ (by_return e)
        by stuck e = tt

  pub followed : (s start own : ℕ) (c : Control) (h : Stack) (log : Log) → AllTold Control Stack Destination log → is_fine log ≡ true → Is (follow s start own c h log) (piece_of start own c h log)
  followed zero start own c h log t j = tt
  followed (suc s) start own c h log t j = follow_is (follow s) (followed s) start own c h log t j

  same_end : (r e : End) → Some r ≡ Some e → r ≡ e
  same_end r e k = ap (λ z. elim z [ None ↦ r | Some q ↦ q ]) k

  abbrev pub end_found : Found → Option End
  end_found nothing = None
  end_found (found e w) = Some e

  -- the end that the computing finds is allowed
  pub allowed_from : (s start own : ℕ) (c : Control) (h : Stack) (log : Log) (e : End) (f : Found) → follow s start own c h log ≡ f → AllTold Control Stack Destination log → is_fine log ≡ true → end_found f ≡ Some e
      → (w : Stack) × Forks (piece_of start own c h log) e w
  allowed_from s start own c h log e nothing l t j k = cc k
  allowed_from s start own c h log e (found r w) l t j k = (w, subst (λ z. Forks (piece_of start own c h log) z w) (same_end r e k) (subst (λ z. Is z (piece_of start own c h log)) l (followed s start own c h log t j)))

  pub allowed : (s start : ℕ) (c : Control) (h : Stack) (e : End) (f : Found) → follow s start 0 c h [] ≡ f → end_found f ≡ Some e → (w : Stack) × Forks (piece_of start 0 c h []) e w
  allowed s start c h e f l k = allowed_from s start 0 c h [] e f l tt refl k

-- ---- a piece that hears of no child

module _ (program : Program) (page : ℕ) (input : List ℤ) where
  abbrev piece_at : (start own : ℕ) → Control → Stack → Log → Piece
  piece_at = piece Control Stack Destination

  abbrev Reaches : Piece → Piece → Type 0
  Reaches = Reached program page input

  -- where a piece is after so many steps, at most up to a tick that doesn't fit, a join, an end, or where it is stuck
  abbrev ahead_on : ((start own : ℕ) → Control → Stack → Log → Piece) → (start own : ℕ) → Control → Stack → Log → Move → Piece
  ahead_on go start own c h log (silent t g) = go start own t g log
  ahead_on go start own c h log (ticks t g) = if nat_lt (own + joined_count log) start then go start (suc own) t g log else piece_at start own c h log
  ahead_on go start own c h log (prints v t g) = go start own t g (printed v ∷ log)
  ahead_on go start own c h log (spawns call lent x t g) = go start own t g (child (depth c) own x false (record { start = start - (own + joined_count log); call = call; lent = lent }) awaited ∷ log)
  ahead_on go start own c h log (syncs t) = piece_at start own c h log
  ahead_on go start own c h log (traps k) = piece_at start own c h log
  ahead_on go start own c h log (ends v) = piece_at start own c h log
  ahead_on go start own c h log stuck = piece_at start own c h log

  abbrev pub ahead : (steps : ℕ) → (start own : ℕ) → Control → Stack → Log → Piece
  ahead zero start own c h log = piece_at start own c h log
  ahead (suc s) start own c h log = ahead_on (ahead s) start own c h log (step program page input c h)

  -- the rules lead there, by one more step
  module _ (first : Piece) (go : (start own : ℕ) → Control → Stack → Log → Piece) (is : (start own : ℕ) (c : Control) (h : Stack) (log : Log) → is_fine log ≡ true → Reaches first (piece_at start own c h log) → Reaches first (go start own c h log)) where
    by_tick_ : (start own : ℕ) (c t : Control) (h g : Stack) (log : Log) → is_fine log ≡ true → Reaches first (piece_at start own c h log) → step program page input c h ≡ ticks t g
        → (b : Bool) → nat_lt (own + joined_count log) start ≡ b → Reaches first (if b then go start (suc own) t g log else piece_at start own c h log)
    by_tick_ start own c t h g log j r e true l = is start (suc own) t g log j ((then) r (ticking e (counts_joined log j) (ltb-true (own + joined_count log) start l)))
    by_tick_ start own c t h g log j r e false l = r

    by_step : (start own : ℕ) (c : Control) (h : Stack) (log : Log) → is_fine log ≡ true → Reaches first (piece_at start own c h log) → (y : Move) → step program page input c h ≡ y → Reaches first (ahead_on go start own c h log y)
    by_step start own c h log j r (silent t g) e = is start own t g log j ((then) r (silently e))
    by_step start own c h log j r (ticks t g) e = by_tick_ start own c t h g log j r e (nat_lt (own + joined_count log) start) refl
    by_step start own c h log j r (prints v t g) e = is start own t g (printed v ∷ log) j ((then) r (showing e))
    by_step start own c h log j r (spawns call lent x t g) e = is start own t g _ j ((then) r (parting e (counts_joined log j)))
    by_step start own c h log j r (syncs t) e = r
    by_step start own c h log j r (traps k) e = r
    by_step start own c h log j r (ends v) e = r
    by_step start own c h log j r stuck e = r

  -- the rules lead there
  pub reaches : (first : Piece) (s start own : ℕ) (c : Control) (h : Stack) (log : Log) → is_fine log ≡ true → Reaches first (piece_at start own c h log) → Reaches first (ahead s start own c h log)
  reaches first zero start own c h log j r = r
  reaches first (suc s) start own c h log j r = by_step first (ahead s) (reaches first s) start own c h log j r (step program page input c h) refl
