-- What the machine counts at tokens, and how traces are put together.
use Rattle.std.proofs.Common.{◌≡◌, List, [], ◌∷◌, ◌++◌, refl, ap, ◌∙◌}
use Rattle.cm_syntax.specs.Token.{LocatedToken}
use Rattle.cm_syntax.specs.ParseTree.{Offset}
use Rattle.cm_syntax.specs.Yield.{Quantity, CountedToken, located_tokens}
use Rattle.cm_syntax.proofs.YieldLaw.{regroup}
use Rattle.cm_syntax.specs.Parser.{State, Next, goes, stops, step}

-- the counts at the tokens that the machine takes, and where it comes to or stops
pub data Trace : Type 0 where
  took : Quantity → Trace → Trace
  stuck : Offset → Trace
  over : State → Trace

abbrev pub next_trace : Next → Offset → (State → Trace) → Trace
next_trace stops at more = stuck at
next_trace (goes quantity next) at more = took quantity (more next)

abbrev pub trace : State → List LocatedToken → Trace
trace s [] = over s
trace s (t ∷ tokens) = next_trace (step s t.token t.at) t.at (λ next. trace next tokens)

-- the counts of these tokens in front
abbrev pub taken : List CountedToken → Trace → Trace
taken [] more = more
taken (t ∷ tokens) more = took t.quantity (taken tokens more)

pub taken-append : (a b : List CountedToken) (more : Trace) → taken (a ++ b) more ≡ taken a (taken b more)
taken-append [] b more = refl
taken-append (t ∷ a) b more = ap (took t.quantity) (taken-append a b more)

-- The machine takes these tokens, in front of this rest, with what is counted at them, and comes to this state. It
-- may have looked at the first token of the rest.
pub record Leads (s : State) (tokens : List CountedToken) (rest : List LocatedToken) (next : State) : Type 0 where
  pub same : trace s (located_tokens tokens ++ rest) ≡ taken tokens (trace next rest)

pub none : {s : State} {rest : List LocatedToken} → Leads s [] rest s
none = record { same = refl }

-- one token, and others behind it
pub one : {s next last : State} {t : CountedToken} {tokens : List CountedToken} {rest : List LocatedToken} →
    step s t.located.token t.located.at ≡ goes t.quantity next → Leads next tokens rest last → Leads s (t ∷ tokens) rest last
one {s} {next} {last} {t} {tokens} {rest} e h =
    record { same = ap (λ x. next_trace x t.located.at (λ n. trace n (located_tokens tokens ++ rest))) e ∙ ap (took t.quantity) h.same }

pub both : {s next last : State} {a b : List CountedToken} {rest : List LocatedToken} →
    Leads s a (located_tokens b ++ rest) next → Leads next b rest last → Leads s (a ++ b) rest last
both {s} {next} {last} {a} {b} {rest} h j =
    record { same = rw (regroup a b rest, taken-append a b (trace last rest)) (h.same ∙ ap (taken a) j.same) }

-- the next token does the same in two states
pub passes : {s next : State} {t : LocatedToken} {rest : List LocatedToken} → step s t.token t.at ≡ step next t.token t.at → Leads s [] (t ∷ rest) next
passes {s} {next} {t} {rest} e = record { same = ap (λ x. next_trace x t.at (λ n. trace n rest)) e }

-- a state that is left behind the tokens without taking one
pub left : {s next last : State} {tokens : List CountedToken} {rest : List LocatedToken} → Leads s tokens rest next → Leads next [] rest last → Leads s tokens rest last
left {tokens = tokens} h j = record { same = h.same ∙ ap (taken tokens) j.same }

-- two states that take the same tokens alike
pub alike : {s other last : State} {tokens : List CountedToken} {rest : List LocatedToken} →
    trace s (located_tokens tokens ++ rest) ≡ trace other (located_tokens tokens ++ rest) → Leads other tokens rest last → Leads s tokens rest last
alike e h = record { same = e ∙ h.same }
