-- What a word that is put before the others, or in the place of one, does to the code.
use Rattle.std.proofs.Common.{◌≡◌, ℕ, zero, suc, ◌-◌, ◌<◌, ◌≤◌, List, [], ◌∷◌, ◌++◌, length, set, take, drop, map, sym, ap, ◌∙◌, arith, append_assoc}
use Rattle.std.specs.Prelude.{reverse, get_or}
use Rattle.std.proofs.lemmas.List.{reverse-append, length-reverse, length-map, length-drop, set_split, set_at, set-get_or, map-set}
use Rattle.cm_gen.specs.declared.builder.Word.{Word}
use Rattle.cm_gen.specs.Builder.{seen, reach, AreWithin, code_in}

pub length_code : (words : List Word) → length (code_in words) ≡ length words
length_code words = length-map (reverse words) seen ∙ length-reverse words

pub code_in_put : (words : List Word) (w : Word) → code_in (words ++ w ∷ []) ≡ seen w ∷ code_in words
code_in_put words w = ap (map seen) (reverse-append words (w ∷ []))

reverse_at : {X : Type 0} (front rest : List X) (x : X) → reverse (front ++ x ∷ rest) ≡ reverse rest ++ x ∷ reverse front
reverse_at front rest x =
    reverse-append front (x ∷ rest) ∙ ap (λ l. l ++ reverse front) (reverse-append (x ∷ []) rest) ∙ append_assoc (reverse rest) (x ∷ []) (reverse front)

reverse-set : {X : Type 0} (l : List X) (i : ℕ) (a : X) → i < length l → reverse (set l i a) ≡ set (reverse l) (length l - 1 - i) a
reverse-set l i a lt =
    let x = get_or l i a in
    let front = take i l in
    let rest = drop (suc i) l in
    let whole : l ≡ front ++ x ∷ rest = sym (set-get_or l i a) ∙ set_split l i x lt in
    let place : length (reverse rest) ≡ length l - 1 - i = omega (arith, length-reverse rest, length-drop (suc i) l) in
    ap reverse (set_split l i a lt) ∙ reverse_at front rest a
    ∙ sym (ap (λ k. set k (length l - 1 - i) a) (ap reverse whole ∙ reverse_at front rest x) ∙ set_at (reverse rest) x (reverse front) a (length l - 1 - i) place)

pub code_in_set : (words : List Word) (i : ℕ) (w : Word) → i < length words → code_in (set words i w) ≡ set (code_in words) (length (code_in words) - 1 - i) (seen w)
code_in_set words i w lt =
    ap (map seen) (reverse-set words i w lt) ∙ map-set seen (reverse words) (length words - 1 - i) w
    ∙ ap (λ n. set (code_in words) (n - 1 - i) (seen w)) (sym (length_code words))

pub within_more : (m n : ℕ) (words : List Word) → m ≤ n → AreWithin m words → AreWithin n words
within_more m n [] le h = tt
within_more m n (w ∷ more) le h = (omega (arith, h.0), within_more m n more le h.1)

pub within_put : (m : ℕ) (words : List Word) (w : Word) → AreWithin m words → reach w ≤ m → AreWithin m (words ++ w ∷ [])
within_put m [] w h le = (le, tt)
within_put m (v ∷ more) w h le = (h.0, within_put m more w h.1 le)

pub within_set : (m : ℕ) (words : List Word) (i : ℕ) (w : Word) → AreWithin m words → reach w ≤ m → AreWithin m (set words i w)
within_set m [] i w h le = tt
within_set m (v ∷ more) zero w h le = (le, h.1)
within_set m (v ∷ more) (suc i) w h le = (h.0, within_set m more i w h.1 le)

pub within_at : (m : ℕ) (words : List Word) (i : ℕ) (d : Word) → AreWithin m words → i < length words → reach (get_or words i d) ≤ m
within_at m [] i d h lt = absurd (omega arith)
within_at m (v ∷ more) zero d h lt = h.0
within_at m (v ∷ more) (suc i) d h lt = within_at m more i d h.1 (omega arith)
