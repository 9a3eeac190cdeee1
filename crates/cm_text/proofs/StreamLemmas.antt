-- How the bytes of one read or write join those of the calls before it.
use Rattle.std.proofs.Common.{◌≡◌, ℕ, ◌+◌, ◌-◌, List, ◌++◌, length, take, drop, sym, ◌∙◌, ap, subst, arith}
use Rattle.std.specs.declared.option.Option.{Option}
use Rattle.std.proofs.lemmas.List.{take-append-drop, drop-drop, take-take, drop-take, take_rest}
use Rattle.std.specs.Io.KnownBytes.{Appends}
use Rattle.std.proofs.KnownBytes.{Appends-trans}

-- what a read gave and what it left are what was left before
pub left_split : (bytes into : List ℕ) (at count : ℕ) → take count into ≡ take count (drop at bytes) → drop at bytes ≡ take count into ++ drop (at + count) bytes
left_split bytes into at count e =
    sym (take-append-drop count (drop at bytes)) ∙ ap (λ l. l ++ drop count (drop at bytes)) (sym e) ∙ ap (λ l. take count into ++ l) (drop-drop count at bytes)

-- the front up to one offset and what follows it up to the next are the front up to that
pub take-append-take : (bytes : List ℕ) (at count : ℕ) → take at bytes ++ take count (drop at bytes) ≡ take (at + count) bytes
take-append-take bytes at count =
    ap (λ l. l ++ take count (drop at bytes)) (sym (take-take at (at + count) bytes (omega arith)))
    ∙ ap (λ l. take at (take (at + count) bytes) ++ l) (sym (drop-take at count bytes))
    ∙ take-append-drop at (take (at + count) bytes)

-- a sink that took the front up to one offset, and then some more, took the front up to the next offset
pub Appends-more : (a b c : Option (List ℕ)) (bytes : List ℕ) (at count : ℕ) → Appends a b (take at bytes) → Appends b c (take count (take (length bytes - at) (drop at bytes))) → Appends a c (take (at + count) bytes)
Appends-more a b c bytes at count front more =
    let next = subst (λ l. Appends b c (take count l)) (take_rest bytes at) more in
    subst (Appends a c) (take-append-take bytes at count) (Appends-trans a b c _ _ front next)
