-- What was written is read back.
use Rattle.std.proofs.Common.{◌≡◌, ℕ, suc, ◌+◌, ◌-◌, ◌<◌, ◌≤◌, true, false, cond, List, [], ◌∷◌, ◌++◌, length, get_or, take, drop, Some, None, Option, sym, refl, ap, ◌∙◌, subst, append_assoc, add-zero, arith, lit≤, length-append, length-drop, length-take}
use Rattle.std.specs.List.{count_by}
use Rattle.std.proofs.lemmas.List.Sums.{sum_by-append}
use Rattle.std.proofs.lemmas.List.{get_or-drop, drop-drop, take_at, drop_at, append-nil, length_push, take_more}
use Rattle.std.proofs.lemmas.Bool.{cond-true, cond-false, and_from, eq-eqb, lt-ltb, le-ltb, true≢false}
use Rattle.std.specs.Option.{option_or}
use Rattle.rules.proofs.Firsts.{below_suc}
use Rattle.jobs.specs.declared.fault.RecordFault.{RecordFault}
use Rattle.jobs.specs.declared.item.Item.{Item}
use Rattle.jobs.specs.declared.item.Item.TheVariants.{Counts, Channels, Near, Rows}
use Rattle.jobs.specs.declared.judge.Room.{Room}
use Rattle.jobs.specs.declared.judge.Seen.{Seen}
use Rattle.jobs.specs.Records.{kind, unread, part}
use Rattle.jobs.specs.Items.{item, of_kind, counts, channels, near, rows}
use Rattle.jobs.specs.Judged.{wrong, fault, onward, Few}
use Rattle.jobs.specs.Jobs.{State, start, grown, after, tally, ending, held, filled, room, Sound}
use Rattle.jobs.proofs.Wholes.{whole}
use Rattle.jobs.proofs.Steps.{few_more}
use Rattle.jobs.specs.Writes.{bytes, written, all_written, Writable, moved, told_all, job, Fitting, none, more, is_group, is_rule, RoundTrip}
use Rattle.jobs.proofs.Digits.{two_back, two_back_2, eight_back}

pub record Front (bs : List ℕ) (p k : ℕ) (b r : List ℕ) (n : ℕ) : Type 0 where
  pub kind_is : kind bs p ≡ k
  pub part_is : part bs p n ≡ b
  pub len : length bs ≡ p + 1 + n + length r
  pub next : drop (p + 1 + n) bs ≡ r

front : (bs : List ℕ) (p k : ℕ) (b r : List ℕ) (n : ℕ) → length b ≡ n → drop p bs ≡ k ∷ (b ++ r) → Front bs p k b r n
front bs p k b r n h e =
    let t : drop (p + 1) bs ≡ b ++ r = sym (drop-drop 1 p bs) ∙ ap (λ xs. drop 1 xs) e in
    let l : length bs - p ≡ suc (length b + length r) = sym (length-drop p bs) ∙ (ap length e ∙ ap suc (length-append b r)) in
    record {
      kind_is = ap (λ q. get_or bs q 0) (sym (add-zero p)) ∙ (sym (get_or-drop p bs 0 0) ∙ ap (λ xs. get_or xs 0 0) e);
      part_is = ap (take n) t ∙ take_at b r n h;
      len = omega arith;
      next = sym (drop-drop n (p + 1) bs) ∙ (ap (drop n) t ∙ drop_at b r n h);
    }

abbrev span : Item → ℕ
span (Counts g r) = 5
span (Channels l) = 9
span (Near e) = 6
span (Rows e) = 517

pub record Back (bs : List ℕ) (p : ℕ) (x : Item) (r : List ℕ) : Type 0 where
  pub item_is : item bs p ≡ moved p x
  pub whole_is : unread bs p ≡ None
  pub len : length bs ≡ p + span x + length r
  pub next : drop (p + span x) bs ≡ r

abbrev gap_entry : ℕ → ℕ → ℕ → Item
gap_entry a b g = Near (record { first = a; second = b; gap = g })

abbrev table_entry : ℕ → ℕ → ℕ → Item
table_entry p a b = Rows (record { first = a; second = b; offset = p + 5 })

pub pair_is : {X : Type 0} (f : ℕ → ℕ → X) (a b c d : ℕ) → a ≡ c → b ≡ d → f a b ≡ f c d
pair_is f a b c d p q = ap (λ x. f x b) p ∙ ap (λ x. f c x) q

back : (bs : List ℕ) (p : ℕ) (src : List ℕ) (x : Item) (r : List ℕ) → Writable src x → drop p bs ≡ written src x ++ r → Back bs p x r
back bs p src (Counts g c) r w e =
    let f = front bs p 0 (bytes 2 g ++ bytes 2 c) r 4 refl e in
    record {
      item_is = ap (of_kind bs p) f.kind_is ∙ (ap counts f.part_is ∙ pair_is Counts _ _ g c (two_back g (bytes 2 c) w.0) (two_back_2 g c [] w.1));
      whole_is = whole bs p 0 f.kind_is (lit≤ tt) (omega (arith, f.len));
      len = omega (arith, f.len);
      next = subst (λ q. drop q bs ≡ r) (omega arith) f.next;
    }
back bs p src (Channels l) r w e =
    let f = front bs p 1 (bytes 8 l) r 8 refl e in
    record {
      item_is = ap (of_kind bs p) f.kind_is ∙ (ap channels f.part_is ∙ ap Channels (eight_back l [] w));
      whole_is = whole bs p 1 f.kind_is (lit≤ tt) (omega (arith, f.len));
      len = omega (arith, f.len);
      next = subst (λ q. drop q bs ≡ r) (omega arith) f.next;
    }
back bs p src (Near y) r w e =
    let f = front bs p 2 (bytes 2 y.first ++ (bytes 2 y.second ++ (y.gap ∷ []))) r 5 refl e in
    record {
      item_is = ap (of_kind bs p) f.kind_is ∙ (ap near f.part_is ∙ pair_is (λ a b. gap_entry a b y.gap) _ _ y.first y.second
          (two_back y.first (bytes 2 y.second ++ (y.gap ∷ [])) w.0) (two_back_2 y.first y.second (y.gap ∷ []) w.1));
      whole_is = whole bs p 2 f.kind_is (lit≤ tt) (omega (arith, f.len));
      len = omega (arith, f.len);
      next = subst (λ q. drop q bs ≡ r) (omega arith) f.next;
    }
back bs p src (Rows y) r w e =
    let z : length (take 512 (drop y.offset src)) ≡ 512 = simp (length-take, length-drop) (omega arith) in
    let n : length (bytes 2 y.first ++ (bytes 2 y.second ++ take 512 (drop y.offset src))) ≡ 516 = omega arith in
    let f = front bs p 3 (bytes 2 y.first ++ (bytes 2 y.second ++ take 512 (drop y.offset src))) r 516 n e in
    record {
      item_is = ap (of_kind bs p) f.kind_is ∙ (ap (λ b. rows b p) f.part_is ∙ pair_is (table_entry p) _ _ y.first y.second
          (two_back y.first (bytes 2 y.second ++ take 512 (drop y.offset src)) w.0) (two_back_2 y.first y.second (take 512 (drop y.offset src)) w.1));
      whole_is = whole bs p 3 f.kind_is (lit≤ tt) (omega (arith, f.len));
      len = omega (arith, f.len);
      next = subst (λ q. drop q bs ≡ r) (omega arith) f.next;
    }

ending_moved : (p : ℕ) (x : Item) → ending x ≡ false → ending (moved p x) ≡ false
ending_moved p (Counts g r) e = e
ending_moved p (Channels l) e = refl
ending_moved p (Near y) e = refl
ending_moved p (Rows y) e = refl

wrong_size : (n : ℕ) (m : Room) (s : Seen) (x : Item) → ending x ≡ false → wrong n m s x ≡ wrong 0 m s x
wrong_size n m s (Counts g r) e = absurd (true≢false e)
wrong_size n m s (Channels l) e = refl
wrong_size n m s (Near y) e = refl
wrong_size n m s (Rows y) e = refl

grown_at : (s : State) (x : Item) → ending x ≡ false → (grown s (moved s.at x)).at ≡ s.at + span x
grown_at s (Counts g r) e = absurd (true≢false e)
grown_at s (Channels l) e = refl
grown_at s (Near y) e = refl
grown_at s (Rows y) e = refl

onward_some : (s : State) (x : Item) → ending x ≡ false → onward (tally s) x ≡ Some (tally (grown s x))
onward_some s (Counts g r) e = absurd (true≢false e)
onward_some s (Channels l) e = let p = length_push s.lists l in cc
onward_some s (Near y) e = let p = length_push s.gaps y in cc
onward_some s (Rows y) e = let p = length_push s.tables y in cc

no_fault : (a b : Option RecordFault) → a ≡ None → b ≡ None → option_or a b ≡ None
no_fault a b p q = ap (λ o. option_or o b) p ∙ q

pub record Walked (src : List ℕ) (m : Room) (bs tail : List ℕ) (s : State) (n : ℕ) : Type 0 where
  pub state : after bs n ≡ s
  pub before : (j : ℕ) → j < n → Sound bs m j
  pub rest : drop s.at bs ≡ tail
  pub few : Few (tally s)

walk : (src : List ℕ) (m : Room) (bs tail : List ℕ) (s : State) (xs : List Item) (k n : ℕ) → Fitting src m s xs → n ≡ k + length xs →
    Walked src m bs (all_written src xs ++ tail) s k → Walked src m bs tail (told_all s xs) n
walk src m bs tail s [] k n none e w = subst (λ i. Walked src m bs tail s i) (omega arith) w
walk src m bs tail s (x ∷ xs) k n (more o d f g) e w =
    let b = back bs s.at src x (all_written src xs ++ tail) o (w.rest ∙ append_assoc (written src x) (all_written src xs) tail) in
    let c : wrong (length bs) m (tally s) (item bs s.at) ≡ None =
    ap (wrong (length bs) m (tally s)) b.item_is ∙ (wrong_size (length bs) m (tally s) (moved s.at x) (ending_moved s.at x d) ∙ f) in
    let z : Sound bs m k = record {
      fits = subst (λ (y : State). fault bs m (tally y) ≡ None) (sym w.state) (no_fault _ _ b.whole_is c);
      more = subst (λ (y : State). ending (item bs y.at) ≡ false) (sym w.state) (ap ending b.item_is ∙ ending_moved s.at x d);
    } in
    walk src m bs tail (grown s (moved s.at x)) xs (suc k) n g (omega arith) (record {
      state = ap (λ (y : State). grown y (item bs y.at)) w.state ∙ ap (grown s) b.item_is;
      before = below_suc (Sound bs m) k w.before z;
      rest = subst (λ q. drop q bs ≡ all_written src xs ++ tail) (sym (grown_at s x d)) b.next;
      few = few_more 0 m (tally s) (tally (grown s (moved s.at x))) (moved s.at x) w.few f (onward_some s (moved s.at x) (ending_moved s.at x d));
    })

end_fits : (n : ℕ) (m : Room) (s : Seen) → 0 < s.groups → n ≤ s.at + 5 → wrong n m s (Counts s.groups (s.gaps + s.tables)) ≡ None
end_fits n m s h l =
    cond-true _ _ _ (and_from _ _ (eq-eqb s.groups s.groups refl) (and_from _ _ (eq-eqb (s.gaps + s.tables) (s.gaps + s.tables) refl) (lt-ltb 0 s.groups h)))
    ∙ cond-false _ _ _ (le-ltb (s.at + 5) n l)

pub round : RoundTrip
round src xs p f h =
    let s = told_all start xs in
    let bs = job src xs in
    let end = Counts (length (told_all start xs).lists) (length (told_all start xs).gaps + length (told_all start xs).tables) in
    let w = walk src (room p) (job src xs) (written src end) start xs 0 (length xs) f (omega arith) (record {
      state = refl;
      before = λ j l. absurd (omega arith);
      rest = refl;
      few = record { groups = omega arith; rules = omega arith; low = omega arith };
    }) in
    let b = back (job src xs) (told_all start xs).at src end [] (omega (arith, w.few.groups), omega (arith, w.few.rules)) (w.rest ∙ sym (append-nil (written src end))) in
    record {
      index = length xs;
      accepts = record {
        before = w.before;
        fits = subst (λ (y : State). fault (job src xs) (room p) (tally y) ≡ None) (sym w.state)
            (no_fault _ _ b.whole_is (ap (wrong (length (job src xs)) (room p) (tally (told_all start xs))) b.item_is
            ∙ end_fits (length (job src xs)) (room p) (tally (told_all start xs)) h (omega (arith, b.len))));
        ends = subst (λ (y : State). ending (item (job src xs) y.at) ≡ true) (sym w.state) (ap ending b.item_is);
      };
      counts = ap held (sym w.state);
      places = ap (λ (y : State). filled y p) (sym w.state);
    }

-- one item more at the end
pub written_push : (src : List ℕ) (xs : List Item) (x : Item) → all_written src (xs ++ (x ∷ [])) ≡ all_written src xs ++ written src x
written_push src [] x = append-nil (written src x)
written_push src (y ∷ xs) x = ap (λ t. written src y ++ t) (written_push src xs x) ∙ sym (append_assoc (written src y) (all_written src xs) (written src x))

grown_groups : (s : State) (p : ℕ) (x : Item) → length (grown s (moved p x)).lists ≡ length s.lists + cond (is_group x) 1 0
grown_groups s p (Counts g r) = omega arith
grown_groups s p (Channels l) = length_push s.lists l
grown_groups s p (Near e) = omega arith
grown_groups s p (Rows e) = omega arith

grown_rules : (s : State) (p : ℕ) (x : Item) → length (grown s (moved p x)).gaps + length (grown s (moved p x)).tables ≡ length s.gaps + length s.tables + cond (is_rule x) 1 0
grown_rules s p (Counts g r) = omega arith
grown_rules s p (Channels l) = omega arith
grown_rules s p (Near e) = omega (arith, length_push s.gaps e)
grown_rules s p (Rows e) = omega (arith, length_push s.tables (record { first = e.first; second = e.second; offset = p + 5 }))

-- an end counts the groups and the rules
told_groups : (xs : List Item) (s : State) → length (told_all s xs).lists ≡ length s.lists + count_by is_group xs
told_groups [] s = omega arith
told_groups (x ∷ xs) s =
    omega (arith, sum_by-append (λ (y : Item). cond (is_group y) 1 0) (x ∷ []) xs, told_groups xs (grown s (moved s.at x)), grown_groups s s.at x)

told_rules : (xs : List Item) (s : State) → length (told_all s xs).gaps + length (told_all s xs).tables ≡ length s.gaps + length s.tables + count_by is_rule xs
told_rules [] s = omega arith
told_rules (x ∷ xs) s =
    omega (arith, sum_by-append (λ (y : Item). cond (is_rule y) 1 0) (x ∷ []) xs, told_rules xs (grown s (moved s.at x)), grown_rules s s.at x)

pub job_is : (src : List ℕ) (xs : List Item) (u v w : List ℕ) → v ≡ u ++ all_written src xs →
    w ≡ v ++ written src (Counts (count_by is_group xs) (count_by is_rule xs)) → w ≡ u ++ job src xs
job_is src xs u v w p q =
    let g : count_by is_group xs ≡ length (told_all start xs).lists = omega (arith, told_groups xs start) in
    let r : count_by is_rule xs ≡ length (told_all start xs).gaps + length (told_all start xs).tables = omega (arith, told_rules xs start) in
    q ∙ (ap (λ t. t ++ written src (Counts (count_by is_group xs) (count_by is_rule xs))) p
    ∙ (append_assoc u (all_written src xs) _ ∙ pair_is (λ m n. u ++ (all_written src xs ++ written src (Counts m n))) _ _ _ _ g r))

-- the records of one item more
pub written_more : (src u v w : List ℕ) (xs : List Item) (k : ℕ) (d : Item) → k < length xs → v ≡ u ++ all_written src (take k xs) →
    w ≡ v ++ written src (get_or xs k d) → w ≡ u ++ all_written src (take (k + 1) xs)
written_more src u v w xs k d l p q =
    q ∙ (ap (λ t. t ++ written src (get_or xs k d)) p
    ∙ (append_assoc u (all_written src (take k xs)) (written src (get_or xs k d))
    ∙ ap (λ t. u ++ t) (sym (written_push src (take k xs) (get_or xs k d)) ∙ ap (all_written src) (sym (take_more xs k d l)))))
