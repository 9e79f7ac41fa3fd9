-- How the words choose, a pair at a time.
use Rattle.std.proofs.Common.{◌≡◌, ℕ, suc, ◌-◌, ◌<◌, ◌≤◌, List, [], ◌∷◌, length, map, take, drop, get_or, Some, None, Option, Ok, Err, Result, refl, sym, ap, ◌∙◌, arith}
use Rattle.std.proofs.Math.Seq.{take-length}
use Rattle.programs.specs.declared.options.Options.{Options}
use Rattle.programs.specs.declared.options.Wrong.{Wrong}
use Rattle.programs.specs.declared.options.Wrong.TheVariants.{Value}
use Rattle.programs.specs.Chosen.{wrong_pair, said, unless_wrong, if_few, chosen_over}

-- what a pair that is taken, or is not, tells of itself
taken : (t : Option Wrong) (s n : Options) → Ok n ≡ unless_wrong t (Ok s) → (t ≡ None) × (n ≡ s)
taken None s n e = (refl, cc)
taken (Some w) s n e = absurd (let z : ⊥ = cc in z)

not_taken : (t : Option Wrong) (s : Options) (w : Wrong) → Err w ≡ unless_wrong t (Ok s) → t ≡ Some w
not_taken None s w e = absurd (let z : ⊥ = cc in z)
not_taken (Some v) s w e = cc

module _ {X : Type 0} (f : X → List ℕ) where
  -- two words in front
  fronted : (xs : List X) (x y : X) → 2 ≤ length xs → x ≡ get_or xs 0 x → y ≡ get_or xs 1 y → map f xs ≡ f x ∷ (f y ∷ map f (take (length xs - 2) (drop 2 xs)))
  fronted [] x y h a b = absurd (omega arith)
  fronted (v ∷ []) x y h a b = absurd (omega arith)
  fronted (v ∷ w ∷ vs) x y h a b =
      let first : x ≡ v = a in
      let second : y ≡ w = b in
      let count : suc (suc (length vs)) - 2 ≡ length vs = omega arith in
      let rest : take (suc (suc (length vs)) - 2) vs ≡ vs = ap (λ (k : ℕ). take k vs) count ∙ take-length vs in
      rw (first, second, rest) refl

  module _ (o : Options) (xs : List X) (x y : X) (few : 2 ≤ length xs) (first : x ≡ get_or xs 0 x) (second : y ≡ get_or xs 1 y)
      (name value : List ℕ) (named : name ≡ f x) (valued : value ≡ f y) (r : Result Options Wrong) (made : r ≡ unless_wrong (wrong_pair (name, value)) (Ok (said o ((name, value) ∷ [])))) where
    split : map f xs ≡ name ∷ (value ∷ map f (take (length xs - 2) (drop 2 xs)))
    split = rw (named, valued) (fronted xs x y few first second)

    -- A wrong pair decides.
    pub wrong_words : (w : Wrong) → r ≡ Err w → Err w ≡ chosen_over o (map f xs)
    wrong_words w e = rw (split, not_taken _ _ w (sym e ∙ made)) refl

    -- The words behind another pair choose over what it said.
    pub right_words : (n : Options) → r ≡ Ok n → chosen_over n (map f (take (length xs - 2) (drop 2 xs))) ≡ chosen_over o (map f xs)
    right_words n e =
        let k = taken _ _ n (sym e ∙ made) in
        rw (split, k.0, k.1) refl

  -- a name alone
  pub lone_word : (o : Options) (xs : List X) → length xs < 2 → 0 < length xs → Err Value ≡ chosen_over o (map f xs)
  lone_word o [] h k = absurd (omega arith)
  lone_word o (x ∷ []) h k = refl
  lone_word o (x ∷ y ∷ xs) h k = absurd (omega arith)

  -- no word
  pub no_word : (o : Options) (xs : List X) → length xs ≤ 0 → if_few o ≡ chosen_over o (map f xs)
  no_word o [] h = refl
  no_word o (x ∷ xs) h = absurd (omega arith)
