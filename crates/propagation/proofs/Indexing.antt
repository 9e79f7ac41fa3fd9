-- The places of a base, and an index of them, made place by place and followed. Assumes nothing.
use Rattle.std.proofs.Common.{◌≡◌, ℕ, suc, ◌+◌, ◌-◌, ◌/◌, ◌<◌, ◌≤◌, ◌≢◌, ◌⊎◌, List, [], ◌∷◌, ◌++◌, length, get_or, set, take, drop, Option, Some, None, IfSome, IsSomeAnd, sym, refl, ap, ◌∙◌, subst, inl, inr, append_assoc, arith, length-append}
use Rattle.std.specs.List.{AllByRecursion}
use Rattle.std.proofs.lemmas.Bool.{cases_eq, cases_lt}
use Rattle.std.proofs.ByRecursion.{All-get_or}
use Rattle.std.proofs.lemmas.List.{get_or-set_same, get_or-set_other, get_or-append-add, get_or_append_left, length-take-le, take-append-drop, take_at, drop_at}
use Rattle.model.specs.Words.{recorded, base_of}
use Rattle.model.proofs.Bases.{base_cons}
use Rattle.propagation.specs.declared.index.Index.{Index}
use Rattle.propagation.specs.Bases.{Grouped}
use Rattle.propagation.specs.Chains.{link, Below}
use Rattle.propagation.specs.Indexed.{Starts, Stands, At, Indexed, Knows}
use Rattle.propagation.proofs.Walking.{all_mid}
use Rattle.propagation.proofs.Chaining.{chains_same, chains_skip, chains_more, above_below}

-- the number after one, in two spellings
after_one : (i : ℕ) → 1 + i ≡ suc i
after_one i = omega arith

-- the words of recorded nogoods
pub record_cons : (n : List ℕ) (ns : List (List ℕ)) → length (recorded (n ∷ ns)) ≡ 1 + length n + length (recorded ns)
record_cons n ns = let e = length-append n (recorded ns) in omega arith

pub recorded_join : (ns ms : List (List ℕ)) → recorded (ns ++ ms) ≡ recorded ns ++ recorded ms
recorded_join [] ms = refl
recorded_join (n ∷ ns) ms = ap (λ (r : List ℕ). (length n ∷ n) ++ r) (recorded_join ns ms) ∙ sym (append_assoc (length n ∷ n) (recorded ns) (recorded ms))

same_first : (x y : List ℕ) (xs ys : List (List ℕ)) → x ∷ xs ≡ y ∷ ys → x ≡ y
same_first x y xs ys e = ap (λ (l : List (List ℕ)). get_or l 0 []) e

same_rest : (x y : List ℕ) (xs ys : List (List ℕ)) → x ∷ xs ≡ y ∷ ys → xs ≡ ys
same_rest x y xs ys e = ap (λ (l : List (List ℕ)). drop 1 l) e

-- a place is in one nogood
same_nogood : (d : List (List ℕ)) (n : List ℕ) (r d' : List (List ℕ)) (n' : List ℕ) (r' : List (List ℕ)) (i i' : ℕ) → d ++ n ∷ r ≡ d' ++ n' ∷ r' → length (recorded d) + 1 + i ≡ length (recorded d') + 1 + i'
    → i < length n → i' < length n' → (n ≡ n') × (i ≡ i')
same_nogood [] n r [] n' r' i i' e p l l' = (same_first n n' r r' e, omega arith)
same_nogood [] n r (x ∷ d') n' r' i i' e p l l' = absurd (let h = ap length (same_first n x r (d' ++ n' ∷ r') e) in let a = record_cons x d' in omega arith)
same_nogood (x ∷ d) n r [] n' r' i i' e p l l' = absurd (let h = ap length (same_first x n' (d ++ n ∷ r) r' e) in let a = record_cons x d in omega arith)
same_nogood (x ∷ d) n r (y ∷ d') n' r' i i' e p l l' =
    let h = ap length (same_first x y (d ++ n ∷ r) (d' ++ n' ∷ r') e) in
    let a = record_cons x d in
    let b = record_cons y d' in
    same_nogood d n r d' n' r' i i' (same_rest x y (d ++ n ∷ r) (d' ++ n' ∷ r') e) (omega arith) l l'

pub same_standing : (base : List (List ℕ)) (s v s' v' p : ℕ) (a : Stands base s v p) (b : Stands base s' v' p) → (a.nogood ≡ b.nogood) × (v ≡ v')
same_standing base s v s' v' p a b =
    let e = sym a.starts.parts ∙ b.starts.parts in
    let q : length (recorded a.starts.before) + 1 + a.nth ≡ length (recorded b.starts.before) + 1 + b.nth = omega (arith, a.starts.start, b.starts.start, a.place, b.place) in
    let t = same_nogood a.starts.before a.nogood a.starts.after b.starts.before b.nogood b.starts.after a.nth b.nth e q a.there b.there in
    (t.0, sym a.is ∙ ap (λ (x : List ℕ). get_or x a.nth 0) t.0 ∙ ap (λ (x : ℕ). get_or b.nogood x 0) t.1 ∙ b.is)

-- no assignment stands where a nogood starts, or the base ends
no_count : (d : List (List ℕ)) (n : List ℕ) (r d' r' : List (List ℕ)) (i : ℕ) → d ++ n ∷ r ≡ d' ++ r' → length (recorded d) + 1 + i ≡ length (recorded d') → i < length n → ⊥
no_count [] n r [] r' i e p l = omega arith
no_count (x ∷ d) n r [] r' i e p l = omega arith
no_count [] n r (x ∷ d') r' i e p l = let h = ap length (same_first n x r (d' ++ r') e) in let a = record_cons x d' in omega arith
no_count (x ∷ d) n r (y ∷ d') r' i e p l =
    let h = ap length (same_first x y (d ++ n ∷ r) (d' ++ r') e) in
    let a = record_cons x d in
    let b = record_cons y d' in
    no_count d n r d' r' i (same_rest x y (d ++ n ∷ r) (d' ++ r') e) (omega arith) l

pub no_standing : (base done rest : List (List ℕ)) (v p : ℕ) → base ≡ done ++ rest → p ≡ length (recorded done) → At base v p → ⊥
no_standing base done rest v p e q (s, t) =
    no_count t.starts.before t.nogood t.starts.after done rest t.nth (sym t.starts.parts ∙ e) (omega (arith, t.starts.start, t.place)) t.there

-- the places of the first nogoods are those of the base below their words
cut : (d : List (List ℕ)) (n : List ℕ) (r ns ms : List (List ℕ)) → d ++ n ∷ r ≡ ns ++ ms → length (recorded d) < length (recorded ns) → (q : List (List ℕ)) × (ns ≡ d ++ n ∷ q)
cut d n r [] ms e l = absurd (omega arith)
cut [] n r (x ∷ ns) ms e l = (ns, ap (λ (y : List ℕ). y ∷ ns) (sym (same_first n x r (ns ++ ms) e)))
cut (y ∷ d) n r (x ∷ ns) ms e l =
    let h = same_first y x (d ++ n ∷ r) (ns ++ ms) e in
    let k = ap length h in
    let a = record_cons y d in
    let b = record_cons x ns in
    let t = cut d n r ns ms (same_rest y x (d ++ n ∷ r) (ns ++ ms) e) (omega arith) in
    (t.0, ap (λ (z : List ℕ). z ∷ ns) (sym h) ∙ ap (λ (z : List (List ℕ)). y ∷ z) t.1)

pub stands_more : (base ns ms : List (List ℕ)) (s v p : ℕ) → base ≡ ns ++ ms → Stands ns s v p → Stands base s v p
stands_more base ns ms s v p e t = record {
  nogood = t.nogood;
  nth = t.nth;
  starts = record {
    before = t.starts.before;
    after = t.starts.after ++ ms;
    parts = e ∙ ap (λ (x : List (List ℕ)). x ++ ms) t.starts.parts ∙ append_assoc t.starts.before (t.nogood ∷ t.starts.after) ms;
    start = t.starts.start;
  };
  there = t.there;
  place = t.place;
  is = t.is;
}

pub stands_less : (base ns ms : List (List ℕ)) (s v p : ℕ) → base ≡ ns ++ ms → p < length (recorded ns) → Stands base s v p → Stands ns s v p
stands_less base ns ms s v p e l t =
    let q = cut t.starts.before t.nogood t.starts.after ns ms (sym t.starts.parts ∙ e) (omega (arith, t.starts.start, t.place)) in
    record {
      nogood = t.nogood;
      nth = t.nth;
      starts = record { before = t.starts.before; after = q.0; parts = q.1; start = t.starts.start };
      there = t.there;
      place = t.place;
      is = t.is;
    }

pub indexed_more : (base ns ms : List (List ℕ)) (x : Index) → base ≡ ns ++ ms → Indexed ns (length (recorded ns)) x → Indexed base (length (recorded ns)) x
indexed_more base ns ms x e i =
    let k = length (recorded ns) in
    record {
      chains = chains_same (Below (At ns) k) (Below (At base) k) (link x.heads) (link x.links) (λ v p r. ((r.0.0, stands_more base ns ms r.0.0 v p e r.0.1), r.1)) (λ v p r. ((r.0.0, stands_less base ns ms r.0.0 v p e r.1 r.0.1), r.1)) i.chains;
      starts = λ v p l r. stands_more base ns ms (get_or x.starts p 0) v p e (i.starts v p l (r.0, stands_less base ns ms r.0 v p e l r.1));
    }

-- where a nogood starts in the words
module _ (ws : List ℕ) (base : List (List ℕ)) (s : ℕ) (n : List ℕ) (whole : ws ≡ recorded base) (t : Starts base s n) where
  abbrev front : List ℕ
  front = recorded t.before

  abbrev back : List ℕ
  back = recorded t.after

  around : ws ≡ front ++ length n ∷ (n ++ back)
  around = whole ∙ ap recorded t.parts ∙ recorded_join t.before (n ∷ t.after)

  pub count_there : get_or ws s 0 ≡ length n
  count_there =
      let e : s ≡ length front + 0 = omega (arith, t.start) in
      ap (λ (x : List ℕ). get_or x s 0) around ∙ ap (λ (i : ℕ). get_or (front ++ length n ∷ (n ++ back)) i 0) e ∙ get_or-append-add front (length n ∷ (n ++ back)) 0 0

  pub place_there : (i : ℕ) → i < length n → get_or ws (s + 1 + i) 0 ≡ get_or n i 0
  place_there i l =
      let e : s + 1 + i ≡ length front + (1 + i) = omega (arith, t.start) in
      ap (λ (x : List ℕ). get_or x (s + 1 + i) 0) around ∙ ap (λ (j : ℕ). get_or (front ++ length n ∷ (n ++ back)) j 0) e
      ∙ get_or-append-add front (length n ∷ (n ++ back)) (1 + i) 0 ∙ ap (λ (j : ℕ). get_or (length n ∷ (n ++ back)) j 0) (after_one i) ∙ get_or_append_left n back 0 i l

  pub room_there : s + 1 + length n ≤ length ws
  room_there =
      let a = ap length around ∙ length-append front (length n ∷ (n ++ back)) in
      let b = length-append n back in
      omega (arith, t.start)

  pub nogood_there : take (length n) (drop (s + 1) ws) ≡ n
  nogood_there =
      let e : (front ++ length n ∷ []) ++ (n ++ back) ≡ ws = append_assoc front (length n ∷ []) (n ++ back) ∙ sym around in
      let l : length (front ++ length n ∷ []) ≡ s + 1 = length-append front (length n ∷ []) ∙ omega (arith, t.start) in
      ap (λ (x : List ℕ). take (length n) (drop (s + 1) x)) (sym e) ∙ ap (take (length n)) (drop_at (front ++ length n ∷ []) (n ++ back) (s + 1) l) ∙ take_at n back (length n) refl

  -- its assignments, place by place
  pub stands_there : (p : ℕ) → s + 1 ≤ p → p < s + 1 + get_or ws s 0 → Stands base s (get_or ws p 0) p
  stands_there p a l =
      let i = p - (s + 1) in
      let h : i < length n = omega (arith, count_there) in
      let e : s + 1 + i ≡ p = omega arith in
      record { nogood = n; nth = i; starts = t; there = h; place = sym e; is = sym (place_there i h) ∙ ap (λ (j : ℕ). get_or ws j 0) e }

  pub next_start : (done rest : List (List ℕ)) × (base ≡ done ++ rest) × (s + 1 + get_or ws s 0 ≡ length (recorded done))
  next_start =
      let a = ap length (recorded_join t.before (n ∷ [])) ∙ length-append front (recorded (n ∷ [])) in
      let b = record_cons n [] in
      (t.before ++ n ∷ [], t.after, t.parts ∙ sym (append_assoc t.before (n ∷ []) t.after), omega (arith, count_there, t.start))

  pub part_there : take (s + 1 + get_or ws s 0 - (s + 1)) (drop (s + 1) ws) ≡ n
  part_there = let e : s + 1 + get_or ws s 0 - (s + 1) ≡ length n = omega (arith, count_there) in ap (λ (k : ℕ). take k (drop (s + 1) ws)) e ∙ nogood_there

-- an assignment of groups below 200
pub small_standing : (base : List (List ℕ)) (s v p : ℕ) → AllByRecursion (Grouped 200) base → Stands base s v p → v < 12800
small_standing base s v p g t =
    let a = All-get_or (λ x. x / 64 < 200) t.nogood t.nth 0 t.there (all_mid (Grouped 200) base t.starts.before t.nogood t.starts.after t.starts.parts g) in
    omega (arith, t.is)

-- the place where a nogood starts is passed over
pub indexed_skip : (base : List (List ℕ)) (s : ℕ) (n : List ℕ) (x : Index) → Starts base s n → Indexed base s x → Indexed base (s + 1) x
indexed_skip base s n x t i = record {
  chains = chains_skip (At base) s (link x.heads) (link x.links) none i.chains;
  starts = λ v p l r. elim (cases_eq p s) [ inl q ↦ absurd (none v (subst (At base v) q r)) | inr d ↦ i.starts v p (omega arith) r ];
}
  where
    none : (v : ℕ) → At base v s → ⊥
    none v = no_standing base t.before (n ∷ t.after) v s t.parts t.start

-- an assignment goes in front of its chain
pub indexed_link : (base : List (List ℕ)) (s v p : ℕ) (x y : Index) → v < length x.heads → p < length x.links → p < length x.starts → Stands base s v p
    → y.heads ≡ set x.heads v (Some p) → y.links ≡ set x.links p (get_or x.heads v None) → y.starts ≡ set x.starts p s → Indexed base p x → Indexed base (p + 1) y
indexed_link base s v p x y h l m t eh el es i = record {
  chains =
      chains_more (At base) p v (link x.heads) (link x.links) (link y.heads) (link y.links) (s, t) (λ w r. same w r.0 r.1)
      (ap (λ (z : List (Option ℕ)). link z v) eh ∙ get_or-set_same x.heads v (Some p) None h)
      (λ w n. ap (λ (z : List (Option ℕ)). link z w) eh ∙ get_or-set_other x.heads v w (Some p) None n)
      (ap (λ (z : List (Option ℕ)). link z p) el ∙ get_or-set_same x.links p (get_or x.heads v None) None l)
      (λ q b. ap (λ (z : List (Option ℕ)). link z q) el ∙ get_or-set_other x.links p q (get_or x.heads v None) None (λ e. omega arith))
      i.chains;
  starts = λ w q b r. elim (cases_eq q p) [
    | inl e ↦ (let f : get_or y.starts q 0 ≡ s = ap (λ (z : List ℕ). get_or z q 0) es ∙ ap (λ (z : ℕ). get_or (set x.starts p s) z 0) e ∙ get_or-set_same x.starts p s 0 m in
        let u : w ≡ v = same w r.0 (subst (Stands base r.0 w) e r.1) in
        subst (λ (z : ℕ). Stands base z w q) (sym f) (subst (λ (z : ℕ). Stands base s z q) (sym u) (subst (Stands base s v) (sym e) t)))
    | inr d ↦ (let f : get_or y.starts q 0 ≡ get_or x.starts q 0 = ap (λ (z : List ℕ). get_or z q 0) es ∙ get_or-set_other x.starts p q s 0 d in
        subst (λ (z : ℕ). Stands base z w q) (sym f) (i.starts w q (omega arith) r))
  ];
}
  where
    same : (w r : ℕ) → Stands base r w p → w ≡ v
    same w r u = (same_standing base r w s v p u t).1

-- words behind recorded nogoods
base_join : (ns : List (List ℕ)) (ws : List ℕ) → base_of (recorded ns ++ ws) ≡ ns ++ base_of ws
base_join [] ws = refl
base_join (n ∷ ns) ws =
    let e : (n ++ recorded ns) ++ ws ≡ n ++ (recorded ns ++ ws) = append_assoc n (recorded ns) ws in
    ap (λ (x : List ℕ). base_of (length n ∷ x)) e
    ∙ base_cons (length n) (n ++ (recorded ns ++ ws))
    ∙ ap (λ (x : List ℕ). x ∷ base_of (drop (length n) (n ++ (recorded ns ++ ws)))) (take_at n (recorded ns ++ ws) (length n) refl)
    ∙ ap (λ (x : List ℕ). n ∷ base_of x) (drop_at n (recorded ns ++ ws) (length n) refl)
    ∙ ap (λ (x : List (List ℕ)). n ∷ x) (base_join ns ws)

pub base_front : (ws : List ℕ) (k : ℕ) → take k ws ≡ recorded (base_of (take k ws)) → base_of ws ≡ base_of (take k ws) ++ base_of (drop k ws)
base_front ws k e =
    ap base_of (sym (take-append-drop k ws)) ∙ ap (λ (x : List ℕ). base_of (x ++ drop k ws)) e ∙ base_join (base_of (take k ws)) (drop k ws)

pub front_long : (ws : List ℕ) (k : ℕ) → k ≤ length ws → take k ws ≡ recorded (base_of (take k ws)) → k ≡ length (recorded (base_of (take k ws)))
front_long ws k l e = sym (length-take-le k ws l) ∙ ap length e

-- the index of the first words, as one of all that has these places
pub knows_front : (ws : List ℕ) (k : ℕ) (x : Index) → k ≤ length ws → Knows (take k ws) x → Indexed (base_of ws) k x
knows_front ws k x l h =
    let f = take k ws in
    let e = front_long ws k l h.whole in
    subst (λ (z : ℕ). Indexed (base_of ws) z x) (sym e)
    (indexed_more (base_of ws) (base_of f) (base_of (drop k ws)) x (base_front ws k h.whole) (subst (λ (z : ℕ). Indexed (base_of f) z x) (ap length h.whole) h.indexed))

-- before the end a nogood starts
pub some_start : (ws : List ℕ) (base done rest : List (List ℕ)) (s : ℕ) → ws ≡ recorded base → base ≡ done ++ rest → s ≡ length (recorded done) → s < length ws → (n : List ℕ) × Starts base s n
some_start ws base done [] s w e q l = absurd (
    let a = ap length w ∙ ap (λ (x : List (List ℕ)). length (recorded x)) e ∙ ap length (recorded_join done []) ∙ length-append (recorded done) [] in omega arith
    )
some_start ws base done (n ∷ rest) s w e q l = (n, record { before = done; after = rest; parts = e; start = q })

pub parts_long : (ws : List ℕ) (base done rest : List (List ℕ)) (s : ℕ) → ws ≡ recorded base → base ≡ done ++ rest → s ≡ length (recorded done) → s ≤ length ws
parts_long ws base done rest s w e q =
    let a = ap length w ∙ ap (λ (x : List (List ℕ)). length (recorded x)) e ∙ ap length (recorded_join done rest) ∙ length-append (recorded done) (recorded rest) in omega arith

-- what holds of the nogoods without an assignment, and of those where it stands
find : (v : ℕ) (n : List ℕ) → AllByRecursion (λ x. x ≢ v) n ⊎ ((i : ℕ) × (i < length n) × (get_or n i 0 ≡ v))
find v [] = inl tt
find v (x ∷ n) = elim (cases_eq x v) [
  | inl q ↦ inr (0, omega arith, q)
  | inr d ↦ elim (find v n) [ inl a ↦ inl (d, a) | inr t ↦ inr (1 + t.0, omega (arith, t.1), ap (λ (i : ℕ). get_or (x ∷ n) i 0) (after_one t.0) ∙ t.2) ]
]

pub all_met : (P : List ℕ → Type 0) (v : ℕ) (base : List (List ℕ)) → AllByRecursion (λ n. AllByRecursion (λ x. x ≢ v) n → P n) base
    → ((s p : ℕ) (t : Stands base s v p) → P t.nogood) → AllByRecursion P base
all_met P v base a met = go [] base refl a
  where
    one : (done : List (List ℕ)) (n : List ℕ) (rest : List (List ℕ)) → base ≡ done ++ n ∷ rest → (AllByRecursion (λ x. x ≢ v) n → P n) → P n
    one done n rest e h = elim (find v n) [
      | inl b ↦ h b
      | inr t ↦ met (length (recorded done)) (length (recorded done) + 1 + t.0)
          (record { nogood = n; nth = t.0; starts = record { before = done; after = rest; parts = e; start = refl }; there = t.1; place = refl; is = t.2 })
    ]

    go : (done rest : List (List ℕ)) → base ≡ done ++ rest → AllByRecursion (λ n. AllByRecursion (λ x. x ≢ v) n → P n) rest → AllByRecursion P rest
    go done [] e b = tt
    go done (n ∷ rest) e b = (one done n rest e b.0, go (done ++ n ∷ []) rest (e ∙ sym (append_assoc done (n ∷ []) rest)) b.1)

pub place_below : (ws : List ℕ) (base : List (List ℕ)) (s v p : ℕ) → ws ≡ recorded base → Stands base s v p → p < length ws
place_below ws base s v p whole t = let r = room_there ws base s t.nogood whole t.starts in omega (arith, t.there, t.place)

-- along the chain of an assignment in an index
module _ (ws : List ℕ) (x : Index) (h : Knows ws x) (v : ℕ) where
  abbrev Here : ℕ → Type 0
  Here = Below (At (base_of ws)) (length ws) v

  put_there : (s p : ℕ) → Stands (base_of ws) s v p → Here p
  put_there s p t = ((s, t), place_below ws (base_of ws) s v p h.whole t)

  pub chain_first : (o : Option ℕ) → o ≡ get_or x.heads v None → IfSome o (Below (At (base_of ws)) (length ws) v)
  chain_first o e = subst (λ (z : Option ℕ). IfSome z Here) (sym e) (h.indexed.chains.head v)

  pub none_past : (o : Option ℕ) → o ≡ get_or x.heads v None → (s p : ℕ) → Stands (base_of ws) s v p → IfSome o (λ e. e < p) → ⊥
  none_past o e s p t l = above_below o p (subst (λ (z : Option ℕ). IsSomeAnd z (λ y. p ≤ y)) (sym e) (h.indexed.chains.last v p (put_there s p t))) l

  module _ (p : ℕ) (here : Below (At (base_of ws)) (length ws) v p) where
    pub stands_here : Stands (base_of ws) (get_or x.starts p 0) v p
    stands_here = h.indexed.starts v p here.1 here.0

    module _ (o : Option ℕ) (e : o ≡ get_or x.links p None) where
      pub chain_next : IfSome o (λ y. (y < p) × Below (At (base_of ws)) (length ws) v y)
      chain_next = subst (λ (z : Option ℕ). IfSome z (λ y. (y < p) × Here y)) (sym e) (h.indexed.chains.down v p here)

      pub none_between : (s q : ℕ) → Stands (base_of ws) s v q → q < p → IfSome o (λ y. y < q) → ⊥
      none_between s q t b l = above_below o q (subst (λ (z : Option ℕ). IsSomeAnd z (λ y. q ≤ y)) (sym e) (h.indexed.chains.next v p q here (put_there s q t) b)) l

-- the nogoods past a place are met, once that of the place is
pub past_more : (P : List ℕ → Type 0) (ws : List ℕ) (x : Index) (h : Knows ws x) (v p : ℕ) (here : Below (At (base_of ws)) (length ws) v p) (o : Option ℕ) → o ≡ get_or x.links p None
    → P (stands_here ws x h v p here).nogood → ((s q : ℕ) (t : Stands (base_of ws) s v q) → p < q → P t.nogood) → (s q : ℕ) (t : Stands (base_of ws) s v q) → IfSome o (λ e. e < q) → P t.nogood
past_more P ws x h v p here o e good past s q t l = elim (cases_eq q p) [
  | inl z ↦ same s q t z
  | inr d ↦ elim (cases_lt q p) [ inl b ↦ absurd (none_between ws x h v p here o e s q t b l) | inr b ↦ past s q t (omega arith) ]
]
  where
    same : (s q : ℕ) (t : Stands (base_of ws) s v q) → q ≡ p → P t.nogood
    same s q t z =
        let r = stands_here ws x h v p here in
        subst P (same_nogood r.starts.before r.nogood r.starts.after t.starts.before t.nogood t.starts.after r.nth t.nth (sym r.starts.parts ∙ t.starts.parts) (omega (arith, r.starts.start, t.starts.start, r.place, t.place)) r.there t.there).0 good
