-- The answer of `read` is that of the text, by that of the machine to the tokens that were found.
use Rattle.std.proofs.Common.{◌≡◌, ℕ, ◌+◌, ◌<◌, Bool, true, false, not, ◌&&◌, List, [], ◌∷◌, length, map, min, refl, sym, ap, ◌∙◌, subst, inl, inr, Option, None, Some, Result, arith}
use Rattle.std.specs.Prelude.{nat_lt, Ok, Err, IsErrAnd, if◌then◌else◌}
use Rattle.std.proofs.lemmas.Bool.Decides.{nat_tests}
use Rattle.cm_syntax.specs.declared.name.Name.{Name}
use Rattle.cm_syntax.specs.declared.stmt.Function.{Function}
use Rattle.cm_syntax.specs.declared.stmt.Tree.{Tree}
use Rattle.cm_syntax.specs.Limit.{max_source_bytes}
use Rattle.cm_syntax.specs.Token as language
use Rattle.cm_syntax.specs.Lexer.{lexed}
use Rattle.cm_syntax.specs.Grammar.{IsSourceOf}
use Rattle.cm_syntax.specs.Refusal.{Refusal, IsAnswer, HasNoRefusal, IsSoundTree}
use Rattle.cm_syntax.specs.Canonical.{canonical}
use Rattle.cm_syntax.specs.Offset.{without_offsets}
use Rattle.cm_syntax.specs.Parser.{State, start, Next, goes, stops, is_within, NestedToken, nested_tokens, readable, capped, Answer, accepted, refused, step, finish, end_answer, token_answer, run, IsAnswerTo}
use Rattle.cm_syntax.proofs.refusing.OneAnswer.{IsAnswer-one}
use Rattle.cm_syntax.proofs.parser.trace.OneTree.{IsSourceOf-one}
use Rattle.cm_syntax.proofs.parser.SourceText.{tokens_of, answer_to, answered}
use Rattle.cm_syntax.proofs.printing.ProgramPrinting.{canonical_reads_back}
use Rattle.cm_reader.specs.declared.token.LocatedToken.{LocatedToken}
use Rattle.cm_reader.specs.declared.refusal.ReadRefusal.{ReadRefusal}
use Rattle.cm_reader.specs.declared.refusal.ReadRefusal.TheVariants as refusal
use Rattle.cm_reader.specs.Next.{nested}
use Rattle.cm_reader.specs.Read.{answer, IsRefusal}
use Rattle.cm_reader.specs.Answer.{IsRefusalOf, refusal_of, Gives}
use Rattle.cm_reader.proofs.LexerLaw.{tokens_answer}

-- ---- beyond the limit of a source, the length doesn't matter

same_end : (a b : ℕ) (read : Option (List (Function Name))) → nat_lt max_source_bytes a ≡ true → nat_lt max_source_bytes b ≡ true → end_answer a read ≡ end_answer b read
same_end a b None long longer = rw (long, longer) refl
same_end a b (Some functions) long longer = rw (long, longer) refl

same_token : (a b : ℕ) (next : Next) (too_nested : Bool) (at : ℕ) (more others : State → Answer) → ((s : State) → more s ≡ others s) →
    token_answer a next too_nested at more ≡ token_answer b next too_nested at others
same_token a b stops too_nested at more others same = refl
same_token a b (goes q next) too_nested at more others same = ap (λ found. if is_within q && not too_nested then found else refused Refusal.size at) (same next)

same_run : (a b : ℕ) (s : State) (tokens : List NestedToken) → nat_lt max_source_bytes a ≡ true → nat_lt max_source_bytes b ≡ true → run a s tokens ≡ run b s tokens
same_run a b s [] long longer = same_end a b (finish s) long longer
same_run a b s (t ∷ tokens) long longer =
    same_token a b (step s t.located.token t.located.at) t.too_nested t.located.at _ _ (λ next. same_run a b next tokens long longer)

-- the length of a text, as far as it is counted
counted : (length counted : ℕ) (s : State) (tokens : List NestedToken) → counted ≡ min length (max_source_bytes + 1) → run counted s tokens ≡ run length s tokens
counted length found s tokens is = by_limit (nat_lt max_source_bytes length) refl
  where
    by_limit : (b : Bool) → nat_lt max_source_bytes length ≡ b → run found s tokens ≡ run length s tokens
    by_limit true long = same_run found length s tokens (grind (arith, nat_tests)) long
    by_limit false short = let same : found ≡ length = grind (arith, nat_tests) in ap (λ n. run n s tokens) same

-- ---- the answer to the tokens that were found

-- these tokens are those of the text
abbrev pub AreTokens : (bytes : List ℕ) → List LocatedToken → Type 0
AreTokens bytes tokens = (all : List language.LocatedToken) → language.Tokens 0 bytes all → nested tokens ≡ nested_tokens 0 0 (readable (map capped all))

pub text_answer : (bytes : List ℕ) (items tokens : List LocatedToken) (length' : ℕ) → items ≡ tokens → AreTokens bytes tokens → length' ≡ min (length bytes) (max_source_bytes + 1) →
    answer length' start items ≡ answer_to bytes
text_answer bytes items tokens length' same are is =
    let all = lexed (length bytes) 0 bytes in
    ap (answer length' start) same ∙ counted (length bytes) length' start (nested tokens) is ∙
    tokens_answer all (nested tokens) (length bytes) (are all (tokens_of bytes))

pub read_functions : (bytes : List ℕ) (items tokens : List LocatedToken) (length' : ℕ) (functions : List (Function Name)) → items ≡ tokens → AreTokens bytes tokens → length' ≡ min (length bytes) (max_source_bytes + 1) →
    answer length' start items ≡ accepted functions → IsSourceOf bytes (record { functions = functions; length = length' }) × HasNoRefusal bytes
read_functions bytes items tokens length' functions same are is found =
    let read = subst (IsAnswerTo bytes) (sym (text_answer bytes items tokens length' same are is) ∙ found) (answered bytes) in
    ((read.0.0, read.0.1, read.0.2, within length' (length bytes) is (λ long. read.1 Refusal.size max_source_bytes (inr (refl, long)))), read.1)
  where
    within : (n m : ℕ) → n ≡ min m (max_source_bytes + 1) → (max_source_bytes < m → ⊥) → n ≡ m
    within n m is short = by_limit (nat_lt max_source_bytes m) refl
      where
        by_limit : (b : Bool) → nat_lt max_source_bytes m ≡ b → n ≡ m
        by_limit true long = absurd (short (grind (arith, nat_tests)))
        by_limit false fits = grind (arith, nat_tests)

pub read_refusal : (bytes : List ℕ) (items tokens : List LocatedToken) (length' : ℕ) (why : ReadRefusal) → items ≡ tokens → AreTokens bytes tokens → length' ≡ min (length bytes) (max_source_bytes + 1) →
    IsRefusal why (answer length' start items) → IsRefusalOf bytes why
read_refusal bytes items tokens length' (refusal.Syntax at) same are is found = subst (IsAnswerTo bytes) (sym (text_answer bytes items tokens length' same are is) ∙ found) (answered bytes)
read_refusal bytes items tokens length' (refusal.Size at) same are is found = subst (IsAnswerTo bytes) (sym (text_answer bytes items tokens length' same are is) ∙ found) (answered bytes)
read_refusal bytes items tokens length' refusal.Memory same are is found = tt

-- what holds of a refusal holds of the answer that hands it on
pub handed_on : (P : Result Tree ReadRefusal → Type 0) (r : Result Tree ReadRefusal) (why : ReadRefusal) → IsErrAnd r (λ found. found ≡ why) → P (Err why) → P r
handed_on P (Ok tree) why same h = absurd same
handed_on P (Err found) why same h = subst (λ x. P (Err x)) (sym same) h

-- ---- each case of the definition has its answer

pub tree_read : (bytes : List ℕ) (x y : Tree) → IsSourceOf bytes x → IsSourceOf bytes y → Gives (Ok x) (Ok y)
tree_read bytes x y a b = inl (ap Ok (IsSourceOf-one bytes x y a b))

pub refusal_or_tree : (bytes : List ℕ) (x : Tree) (why : Refusal) (at : ℕ) → HasNoRefusal bytes → IsAnswer bytes why at → Gives (Ok x) (Err (refusal_of why at))
refusal_or_tree bytes x why at none is = absurd (none why at is.refused)

pub tree_or_refusal : (bytes : List ℕ) (why : ReadRefusal) (x : Tree) → IsRefusalOf bytes why → HasNoRefusal bytes → Gives (Err why) (Ok x)
tree_or_refusal bytes (refusal.Syntax at) x is none = absurd (none Refusal.syntax_ at is.refused)
tree_or_refusal bytes (refusal.Size at) x is none = absurd (none Refusal.size at is.refused)
tree_or_refusal bytes refusal.Memory x is none = inr refl

same_refusal : (bytes : List ℕ) (r s : Refusal) (i j : ℕ) → IsAnswer bytes r i → IsAnswer bytes s j → Gives (Err (refusal_of r i)) (Err (refusal_of s j))
same_refusal bytes r s i j a b = let one = IsAnswer-one bytes r s i j a b in inl (λ k. Err (refusal_of (one.0 k) (one.1 k)))

pub refusal_read : (bytes : List ℕ) (why : ReadRefusal) (r : Refusal) (at : ℕ) → IsRefusalOf bytes why → IsAnswer bytes r at → Gives (Err why) (Err (refusal_of r at))
refusal_read bytes (refusal.Syntax i) r at is also = same_refusal bytes Refusal.syntax_ r i at is also
refusal_read bytes (refusal.Size i) r at is also = same_refusal bytes Refusal.size r i at is also
refusal_read bytes refusal.Memory r at is also = inr refl

-- the tree of a canonical text is the one that it was printed from
pub read_written : (bytes : List ℕ) (read tree : Tree) → IsSourceOf bytes read → IsSoundTree tree → bytes ≡ canonical tree → without_offsets read ≡ without_offsets tree
read_written bytes read tree is sound written =
    let again = canonical_reads_back tree sound in
    ap without_offsets (IsSourceOf-one bytes read again.0 is (subst (λ text. IsSourceOf text again.0) (sym written) again.1)) ∙ again.2
