use Rattle.std.proofs.Common.{◌≡◌, ℕ, [], ◌∷◌, ◌++◌, length, Some, replicate, vec_items, rules, ◌∙◌, ap}
use Rattle.jobs.specs.declared.item.Item.TheVariants.{Rows}
use Rattle.text.specs.Drafts.{Made}
use Rattle.text.proofs.Drafting.{same_made}
use Rattle.text.proofs.draft.Draft.add_table.Goals as goal

pub returns : goal.returns
returns c =
    let grown = c.in_ok-add_item.ensures in
    let offset : c.len-offset.result ≡ length (vec_items c.args.self.now.rows) = search rules in
    let items = ap (λ (m : Made). m.items) grown.1 ∙ ap (λ (n : ℕ). vec_items c.args.self.now.items ++ (Rows (record { first = c.args.first; second = c.args.second; offset = n }) ∷ [])) offset in
    let rows : vec_items c.extend_from_slice.new.self ≡ vec_items c.args.self.now.rows ++ replicate 512 0 = c.in_ok-extend_from_slice.ensures.items ∙ ap (λ (m : Made). m.rows ++ replicate 512 0) grown.1 in
    (grown.0, same_made _ _ _ _ (Some 0) items rows)
