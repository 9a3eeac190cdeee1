-- A text that obeys the lending rule, from its start on: what is asked of each event, with the variables that are lent
-- before it, and of what stands behind the text. A text without a lent mention and without a name twice meets it.
use Rattle.std.proofs.Common.{ℕ, zero, suc, List, [], ◌∷◌, ◌++◌, refl, inl, inr, Contains, arith}
use Rattle.std.proofs.lemmas.List.Elements.{Contains-append_right}
use Rattle.std.specs.Prelude.{◌⊎◌, ◌<◌, ⊤}
use Rattle.cm_syntax.specs.declared.expr.Mark.{Mark}
use Rattle.cm_syntax.specs.Walk.{Event, mentions, calls, spawns, ends, Order, nothing, event, next, choice, turns, Repeats, no_turn, a_turn, Walks, Comes, Leads, Has}
use Rattle.cm_meaning.specs.Visible.{Among}
use Rattle.cm_meaning.proofs.WeakeningLaw.{contains_cases}
use Rattle.cm_syntax.specs.Lending.{variables, Lends, Mentions, HasAgain, Doubles}

pub among_left : (xs ys : List ℕ) (x : ℕ) → Among xs x → Among (xs ++ ys) x
among_left [] ys x a = absurd a
among_left (z ∷ xs) ys x (inl e) = inl e
among_left (z ∷ xs) ys x (inr a) = inr (among_left xs ys x a)

pub among_right : (xs ys : List ℕ) (x : ℕ) → Among ys x → Among (xs ++ ys) x
among_right [] ys x a = a
among_right (z ∷ xs) ys x a = inr (among_right xs ys x a)

pub among_parts : (xs ys : List ℕ) (x : ℕ) → Among (xs ++ ys) x → Among xs x ⊎ Among ys x
among_parts [] ys x a = inr a
among_parts (z ∷ xs) ys x (inl e) = inl (inl e)
among_parts (z ∷ xs) ys x (inr a) = elim (among_parts xs ys x a) [ inl b ↦ inl (inr b) | inr b ↦ inr b ]

-- as lists of the code say it
pub among : (xs : List ℕ) (x : ℕ) → Contains xs x → Among xs x
among [] x c = absurd (none_at c.0 c.1)
  where
    none_at : (i : ℕ) → i < 0 → ⊥
    none_at i l = omega (arith, l)
among (y ∷ xs) x c = elim (contains_cases y x xs c) [ inl e ↦ inl e | inr d ↦ inr (among xs x d) ]

pub contained : (xs : List ℕ) (x : ℕ) → Among xs x → Contains xs x
contained [] x a = absurd a
contained (y ∷ xs) x (inl e) = (0, omega arith, e)
contained (y ∷ xs) x (inr a) = Contains-append_right (y ∷ []) xs x (contained xs x a)

-- no element stands twice
abbrev pub Distinct : List ℕ → Type 0
Distinct [] = ⊤
Distinct (x ∷ xs) = (Among xs x → ⊥) × Distinct xs

-- so many times, one behind the other
abbrev pub Times : ((List ℕ → Type 0) → List ℕ → Type 0) → (count : ℕ) → (List ℕ → Type 0) → List ℕ → Type 0
Times f zero q lent = q lent
Times f (suc n) q lent = f (Times f n q) lent

-- With these variables lent before it a text obeys the rule, on every walk, and behind it this holds of those that are
-- lent there.
abbrev pub Obeys : Order → (behind : List ℕ → Type 0) → (lent : List ℕ) → Type 0
Obeys nothing q lent = q lent
Obeys (event (mentions v at)) q lent = (Among lent v → ⊥) × q lent
Obeys (event (calls passed)) q lent = Distinct (variables passed) × q lent
Obeys (event (spawns at lends)) q lent = Distinct (variables lends) × q (variables lends ++ lent)
Obeys (event ends) q lent = q []
Obeys (next first second) q lent = Obeys first (Obeys second q) lent
Obeys (choice one other) q lent = Obeys one q lent × Obeys other q lent
Obeys (turns turn) q lent = (n : ℕ) → Times (Obeys turn) n q lent

-- ---- what is asked behind a text

times_more : (f : (List ℕ → Type 0) → List ℕ → Type 0) → ((p q : List ℕ → Type 0) (l : List ℕ) → ((m : List ℕ) → p m → q m) → f p l → f q l)
    → (n : ℕ) (p q : List ℕ → Type 0) (l : List ℕ) → ((m : List ℕ) → p m → q m) → Times f n p l → Times f n q l
times_more f mono zero p q l g h = g l h
times_more f mono (suc n) p q l g h = mono (Times f n p) (Times f n q) l (λ m. times_more f mono n p q m g) h

-- less may be asked
pub more : (o : Order) (p q : List ℕ → Type 0) (l : List ℕ) → ((m : List ℕ) → p m → q m) → Obeys o p l → Obeys o q l
more nothing p q l g h = g l h
more (event (mentions v at)) p q l g h = (h.0, g l h.1)
more (event (calls passed)) p q l g h = (h.0, g l h.1)
more (event (spawns at lends)) p q l g h = (h.0, g (variables lends ++ l) h.1)
more (event ends) p q l g h = g [] h
more (next a b) p q l g h = more a (Obeys b p) (Obeys b q) l (λ m. more b p q m g) h
more (choice a b) p q l g h = (more a p q l g h.0, more b p q l g h.1)
more (turns t) p q l g h = λ n. times_more (Obeys t) (more t) n p q l g (h n)

-- what doesn't depend on what is lent may be added
pub kept : (o : Order) (X : Type 0) (q : List ℕ → Type 0) (l : List ℕ) → X → Obeys o q l → Obeys o (λ m. X × q m) l
kept o X q l x h = more o q (λ m. X × q m) l (λ m y. (x, y)) h

times_all : (f : (List ℕ → Type 0) → List ℕ → Type 0) → ((p q : List ℕ → Type 0) (l : List ℕ) → ((m : List ℕ) → p m → q m) → f p l → f q l)
    → ((q : ℕ → List ℕ → Type 0) (l : List ℕ) → ((n : ℕ) → f (q n) l) → f (λ m. (n : ℕ) → q n m) l)
    → (k : ℕ) (q : ℕ → List ℕ → Type 0) (l : List ℕ) → ((n : ℕ) → Times f k (q n) l) → Times f k (λ m. (n : ℕ) → q n m) l
times_all f mono every zero q l h = h
times_all f mono every (suc k) q l h =
    mono (λ m. (n : ℕ) → Times f k (q n) m) (Times f k (λ m. (n : ℕ) → q n m)) l (λ m g. times_all f mono every k q m g) (every (λ n. Times f k (q n)) l h)

-- what holds for each number holds for all at once
pub for_all : (o : Order) (q : ℕ → List ℕ → Type 0) (l : List ℕ) → ((n : ℕ) → Obeys o (q n) l) → Obeys o (λ m. (n : ℕ) → q n m) l
for_all nothing q l h = h
for_all (event (mentions v at)) q l h = ((h 0).0, λ n. (h n).1)
for_all (event (calls passed)) q l h = ((h 0).0, λ n. (h n).1)
for_all (event (spawns at lends)) q l h = ((h 0).0, λ n. (h n).1)
for_all (event ends) q l h = h
for_all (next a b) q l h = more a (λ m. (n : ℕ) → Obeys b (q n) m) (Obeys b (λ m. (n : ℕ) → q n m)) l (λ m g. for_all b q m g) (for_all a (λ n. Obeys b (q n)) l h)
for_all (choice a b) q l h = (for_all a q l (λ n. (h n).0), for_all b q l (λ n. (h n).1))
for_all (turns t) q l h = λ k. times_all (Obeys t) (more t) (for_all t) k q l (λ n. h n k)

abbrev One_of : (p q : List ℕ → Type 0) → ℕ → List ℕ → Type 0
One_of p q zero = p
One_of p q (suc n) = q

pub both_ : (o : Order) (p q : List ℕ → Type 0) (l : List ℕ) → Obeys o p l → Obeys o q l → Obeys o (λ m. p m × q m) l
both_ o p q l x y = more o (λ m. (n : ℕ) → One_of p q n m) (λ m. p m × q m) l (λ m g. (g 0, g 1)) (for_all o (One_of p q) l (by x y))
  where
    by : Obeys o p l → Obeys o q l → (n : ℕ) → Obeys o (One_of p q n) l
    by x y zero = x
    by x y (suc n) = y

-- each text has an end
pub leads_out : (o : Order) (q : List ℕ → Type 0) (l : List ℕ) → Obeys o q l → (m : List ℕ) × q m
leads_out nothing q l h = (l, h)
leads_out (event (mentions v at)) q l h = (l, h.1)
leads_out (event (calls passed)) q l h = (l, h.1)
leads_out (event (spawns at lends)) q l h = (variables lends ++ l, h.1)
leads_out (event ends) q l h = ([], h)
leads_out (next a b) q l h = let x = leads_out a (Obeys b q) l h in leads_out b q x.0 x.1
leads_out (choice a b) q l h = leads_out a q l h.0
leads_out (turns t) q l h = (l, h 0)

-- a text that neither lends nor ends a path
abbrev pub Calm : Order → Type 0
Calm nothing = ⊤
Calm (event (mentions v at)) = ⊤
Calm (event (calls passed)) = ⊤
Calm (event (spawns at lends)) = ⊥
Calm (event ends) = ⊥
Calm (next a b) = Calm a × Calm b
Calm (choice a b) = Calm a × Calm b
Calm (turns t) = ⊥

-- so the same variables are lent behind it
pub calm_more : (o : Order) → Calm o → (p q : List ℕ → Type 0) (l : List ℕ) → (p l → q l) → Obeys o p l → Obeys o q l
calm_more nothing c p q l g h = g h
calm_more (event (mentions v at)) c p q l g h = (h.0, g h.1)
calm_more (event (calls passed)) c p q l g h = (h.0, g h.1)
calm_more (event (spawns at lends)) c p q l g h = absurd c
calm_more (event ends) c p q l g h = absurd c
calm_more (next a b) c p q l g h = calm_more a c.0 (Obeys b p) (Obeys b q) l (calm_more b c.1 p q l g) h
calm_more (choice a b) c p q l g h = (calm_more a c.0 p q l g h.0, calm_more b c.1 p q l g h.1)
calm_more (turns t) c p q l g h = absurd c

pub calm_out : (o : Order) → Calm o → (q : List ℕ → Type 0) (l : List ℕ) → Obeys o q l → q l
calm_out nothing c q l h = h
calm_out (event (mentions v at)) c q l h = h.1
calm_out (event (calls passed)) c q l h = h.1
calm_out (event (spawns at lends)) c q l h = absurd c
calm_out (event ends) c q l h = absurd c
calm_out (next a b) c q l h = calm_out b c.1 q l (calm_out a c.0 (Obeys b q) l h)
calm_out (choice a b) c q l h = calm_out a c.0 q l h.0
calm_out (turns t) c q l h = absurd c

-- ---- loops

-- The condition of a loop, and then a turn with the loop behind it, or what stands behind the loop.
pub round : (test turn : Order) (q : List ℕ → Type 0) (l : List ℕ) → Obeys (next (turns (next test turn)) test) q l
    → Obeys test (λ m. q m × Obeys turn (Obeys (next (turns (next test turn)) test) q) m) l
round test turn q l h = both_ test q (Obeys turn (Obeys (next (turns (next test turn)) test) q)) l (h 0)
    (more test (λ m. (n : ℕ) → Obeys turn (Times (Obeys (next test turn)) n (Obeys test q)) m) (Obeys turn (Obeys (next (turns (next test turn)) test) q)) l
    (λ m g. for_all turn (λ n. Times (Obeys (next test turn)) n (Obeys test q)) m g)
    (for_all test (λ n. Obeys turn (Times (Obeys (next test turn)) n (Obeys test q))) l (λ n. h (suc n))))

-- and without a condition
pub endless : (turn : Order) (q : List ℕ → Type 0) (l : List ℕ) → Obeys (next (turns turn) (event ends)) q l → Obeys turn (Obeys (next (turns turn) (event ends)) q) l
endless turn q l h = for_all turn (λ n. Times (Obeys turn) n (λ m. q [])) l (λ n. h (suc n))

-- ---- from walks

-- of the events of a walk, with what is asked behind them
abbrev IsClean : (walk : List Event) → (behind : List ℕ → Type 0) → (lent : List ℕ) → Type 0
IsClean [] q lent = q lent
IsClean (mentions v at ∷ walk) q lent = (Among lent v → ⊥) × IsClean walk q lent
IsClean (calls passed ∷ walk) q lent = IsClean walk q lent
IsClean (spawns at lends ∷ walk) q lent = IsClean walk q (variables lends ++ lent)
IsClean (ends ∷ walk) q lent = IsClean walk q []

-- nothing stands twice
abbrev IsSingle : Order → Type 0
IsSingle nothing = ⊤
IsSingle (event (mentions v at)) = ⊤
IsSingle (event (calls passed)) = Distinct (variables passed)
IsSingle (event (spawns at lends)) = Distinct (variables lends)
IsSingle (event ends) = ⊤
IsSingle (next a b) = IsSingle a × IsSingle b
IsSingle (choice a b) = IsSingle a × IsSingle b
IsSingle (turns t) = IsSingle t

a_walk : (o : Order) → (walk : List Event) × Walks o walk
a_walk nothing = ([], refl)
a_walk (event e) = (e ∷ [], refl)
a_walk (next first second) =
    let x = a_walk first in
    let y = a_walk second in
    (x.0 ++ y.0, (x.0, y.0, refl, x.1, y.1))
a_walk (choice one other) =
    let x = a_walk one in
    (x.0, inl x.1)
a_walk (turns turn) = ([], no_turn)

-- what holds behind each walk of the second part holds behind the first
glue : (W : List Event → Type 0) → (some : (w : List Event) × W w) → (p q : List ℕ → Type 0) → ((l : List ℕ) → ((w : List Event) → W w → IsClean w q l) → p l)
    → (front : List Event) (l : List ℕ) → ((w : List Event) → W w → IsClean (front ++ w) q l) → IsClean front p l
glue W some p q so [] l h = so l h
glue W some p q so (mentions v at ∷ front) l h = ((h some.0 some.1).0, glue W some p q so front l (λ w x. (h w x).1))
glue W some p q so (calls passed ∷ front) l h = glue W some p q so front l h
glue W some p q so (spawns at lends ∷ front) l h = glue W some p q so front (variables lends ++ l) h
glue W some p q so (ends ∷ front) l h = glue W some p q so front [] h

turn_walks : (W : List Event → Type 0) → (some : (w : List Event) × W w) → (f : (List ℕ → Type 0) → List ℕ → Type 0)
    → ((q : List ℕ → Type 0) (l : List ℕ) → ((w : List Event) → W w → IsClean w q l) → f q l)
    → (n : ℕ) (q : List ℕ → Type 0) (l : List ℕ) → ((w : List Event) → Repeats W w → IsClean w q l) → Times f n q l
turn_walks W some f so zero q l h = h [] no_turn
turn_walks W some f so (suc n) q l h =
    so (Times f n q) l (λ w x. glue (Repeats W) ([], no_turn) (Times f n q) q (λ m g. turn_walks W some f so n q m g) w l (λ v y. h (w ++ v) (a_turn {first = w} {rest = v} refl x y)))

pub of_walks : (o : Order) → IsSingle o → (q : List ℕ → Type 0) (l : List ℕ) → ((w : List Event) → Walks o w → IsClean w q l) → Obeys o q l
of_walks nothing s q l h = h [] refl
of_walks (event (mentions v at)) s q l h = h (mentions v at ∷ []) refl
of_walks (event (calls passed)) s q l h = (s, h (calls passed ∷ []) refl)
of_walks (event (spawns at lends)) s q l h = (s, h (spawns at lends ∷ []) refl)
of_walks (event ends) s q l h = h (ends ∷ []) refl
of_walks (next a b) s q l h = of_walks a s.0 (Obeys b q) l (λ w x. glue (Walks b) (a_walk b) (Obeys b q) q (λ m g. of_walks b s.1 q m g) w l (λ v y. h (w ++ v) (w, v, refl, x, y)))
of_walks (choice a b) s q l h = (of_walks a s.0 q l (λ w x. h w (inl x)), of_walks b s.1 q l (λ w x. h w (inr x)))
of_walks (turns t) s q l h = λ n. turn_walks (Walks t) (a_walk t) (Obeys t) (of_walks t s) n q l h

-- a walk without a lent mention is clean
clean_walk : (lent : List ℕ) (walk : List Event) → ((variable at : ℕ) → Among lent variable → Comes (Mentions variable at) walk → ⊥)
    → ((spawn variable at : ℕ) → Leads (Lends spawn variable) (Mentions variable at) walk → ⊥) → IsClean walk (λ m. ⊤) lent
clean_walk lent [] h i = tt
clean_walk lent (mentions variable at ∷ walk) h i =
    (λ j. h variable at j (inl (refl, refl)), clean_walk lent walk (λ v a j k. h v a j (inr (tt, k))) (λ s v a j. i s v a (inr j)))
clean_walk lent (calls passed ∷ walk) h i = clean_walk lent walk (λ v a j k. h v a j (inr (tt, k))) (λ s v a j. i s v a (inr j))
clean_walk lent (spawns at lends ∷ walk) h i = clean_walk (variables lends ++ lent) walk
    (λ v a j k. elim (among_parts (variables lends) lent v j) [ inl l ↦ i at v a (inl ((refl, contained (variables lends) v l), k)) | inr l ↦ h v a l (inr (tt, k)) ])
    (λ s v a j. i s v a (inr j))
clean_walk lent (ends ∷ walk) h i = clean_walk [] walk (λ v a j k. j) (λ s v a j. i s v a (inr j))

-- a name that stands again does so at some offset
again_at : (marks : List (Mark ℕ)) (v : ℕ) → Among (variables marks) v → (at : ℕ) × Contains marks (record { name = v; at = at })
again_at [] v a = absurd a
again_at (x ∷ marks) v (inl e) = (x.at, (0, omega arith, λ i. record { name = e i; at = x.at }))
again_at (x ∷ marks) v (inr a) = let y = again_at marks v a in (y.0, Contains-append_right (x ∷ []) marks (record { name = v; at = y.0 }) y.1)

distinct : (marks : List (Mark ℕ)) → ((at : ℕ) → HasAgain marks at → ⊥) → Distinct (variables marks)
distinct [] h = tt
distinct (x ∷ marks) h = (λ c. let y = again_at marks x.name c in h y.0 (inl y.1), distinct marks (λ at g. h at (inr g)))

single : (o : Order) → ((at : ℕ) → Has (Doubles at) o → ⊥) → IsSingle o
single nothing h = tt
single (event (mentions v at)) h = tt
single (event (calls passed)) h = distinct passed h
single (event (spawns at lends)) h = distinct lends h
single (event ends) h = tt
single (next a b) h = (single a (λ at x. h at (inl x)), single b (λ at x. h at (inr x)))
single (choice a b) h = (single a (λ at x. h at (inl x)), single b (λ at x. h at (inr x)))
single (turns t) h = single t h

-- a text that obeys the lending rule
pub obedient : (o : Order) → ((walk : List Event) → Walks o walk → (spawn variable at : ℕ) → Leads (Lends spawn variable) (Mentions variable at) walk → ⊥)
    → ((at : ℕ) → Has (Doubles at) o → ⊥) → Obeys o (λ m. ⊤) []
obedient o h d = of_walks o (single o d) (λ m. ⊤) [] (λ w x. clean_walk [] w (λ v a j k. j) (h w x))
