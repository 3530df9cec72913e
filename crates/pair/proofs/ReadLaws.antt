-- Laws on what a loop of reads fills and consumes.
use Rattle.std.proofs.Common.{◌≡◌, ℕ, ◌+◌, ◌≤◌, List, ◌++◌, None, Some, length, take, drop, sym, ap, ◌∙◌, subst}
use Rattle.std.proofs.Common.{le_refl, drop_at, length-take-le, append_assoc}
use Rattle.std.proofs.lemmas.Slice.{take-put_mid_below}
use Rattle.std.specs.Io.KnownBytes.{Consumes}
use Rattle.std.specs.declared.option.Option.{Option}
use borrow.Rule.Slice.PartMut.{put_mid, post_of}
use lib.Seq.{take-add, take-append-le}

Consumes-trans : (a b c : Option (List ℕ)) (bs cs : List ℕ) → Consumes a b bs → Consumes b c cs → Consumes a c (bs ++ cs)
Consumes-trans None b c bs cs p q = tt
Consumes-trans (Some x) None c bs cs p q = absurd p
Consumes-trans (Some x) (Some y) None bs cs p q = absurd q
Consumes-trans (Some x) (Some y) (Some z) bs cs p q = p ∙ ap (λ l. bs ++ l) q ∙ sym (append_assoc bs cs z)

-- n bytes read into the part of xs from a on stand after the first a
take_filled : (a k n : ℕ) (xs ys : List ℕ) → a ≤ length xs → n ≤ length ys
    → take (a + n) (put_mid a k xs ys) ≡ take a xs ++ take n ys
take_filled a k n xs ys within fits =
    let new = put_mid a k xs ys in
    let part = drop_at (take a xs) (ys ++ post_of a k xs) a (length-take-le a xs within) in
    let first : take a new ≡ take a xs = take-put_mid_below _ _ _ _ _ (le_refl _) within in
    let more : take n (drop a new) ≡ take n ys = ap (take n) part ∙ take-append-le n ys (post_of a k xs) fits in
    take-add a n new ∙ ap (λ l. l ++ take n (drop a new)) first ∙ ap (λ l. take a xs ++ l) more

-- what was consumed before the read, and by it
pub filled_more : (u v w : Option (List ℕ)) (a k n : ℕ) (xs ys : List ℕ) → a ≤ length xs → n ≤ length ys
    → Consumes u v (take a xs) → Consumes v w (take n ys) → Consumes u w (take (a + n) (put_mid a k xs ys))
filled_more u v w a k n xs ys within fits before read =
    subst (Consumes u w) (sym (take_filled a k n xs ys within fits)) (Consumes-trans u v w _ _ before read)
