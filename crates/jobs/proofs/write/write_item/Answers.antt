use Rattle.std.proofs.Common.{◌≡◌, ℕ, ◌+◌, ◌-◌, [], ◌∷◌, ◌++◌, take, drop, vec_items, ap, ◌∙◌, rules, arith}
use Rattle.jobs.specs.Writes.{bytes}
use Rattle.jobs.proofs.Digits.{chain_3}
use Rattle.jobs.proofs.write.write_item.Goals as goal

-- as many as the code cuts off
cut : (o : ℕ) → o + 512 - o ≡ 512
cut o = omega arith

pub returns-in_ok-extend_from_slice-in-Rows : goal.returns-in_ok-extend_from_slice-in-Rows
returns-in_ok-extend_from_slice-in-Rows c =
    let kind : vec_items c.push-in-Rows.new.self ≡ vec_items c.args.out.now ++ (3 ∷ []) = search rules in
    let all : vec_items c.extend_from_slice-in-Rows.new.self ≡ vec_items c.write_pair-in-Rows.new.out ++ take (c.in-Rows.e.offset + 512 - c.in-Rows.e.offset) (drop c.in-Rows.e.offset c.args.src.now) = search rules in
    rw c.in-Rows.is (chain_3 _ (3 ∷ []) (bytes 2 c.in-Rows.e.first ++ bytes 2 c.in-Rows.e.second) _ _ _ _ kind c.in_ok-write_pair-in-Rows.ensures
    (all ∙ ap (λ n. vec_items c.write_pair-in-Rows.new.out ++ take n (drop c.in-Rows.e.offset c.args.src.now)) (cut c.in-Rows.e.offset)))
