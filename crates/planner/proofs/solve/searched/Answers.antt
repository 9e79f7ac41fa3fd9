use Rattle.std.proofs.Common.{◌≡◌, ℕ, ◌*◌, List, length, take, replicate, vec_items, vec_len, sym, ap, ◌∙◌, subst, arith}
use Rattle.std.proofs.lemmas.List.{take_all}
use Rattle.jobs.specs.Jobs.{after}
use Rattle.jobs.specs.Books.{book_of}
use Rattle.planner.specs.declared.error.PlanError.{PlanError}
use Rattle.planner.specs.Answers.{Unanswered, reached}
use Rattle.planner.proofs.Openings.{book_same, open_taken, new_ready, opened_within, came_home, unanswered, passed_on}
use Rattle.planner.proofs.solve.searched.Goals as goal

pub returns-in_err-store-clause-answers : goal.returns-in_err-store-clause-answers
returns-in_err-store-clause-answers g c = passed_on c.from_residual.result _ _ _ c.from_residual.ensures.1
    (λ e x. subst (λ (y : PlanError). Unanswered c.args.job.now c.args.settings y) (sym x) (unanswered c.args.job.now c.args.settings _ c.in_err-store.ensures))

pub returns-in_err-memory-clause-answers : goal.returns-in_err-memory-clause-answers
returns-in_err-memory-clause-answers g c = passed_on c.from_residual-in_err-memory.result _ _ _ c.from_residual-in_err-memory.ensures.1
    (λ e x. subst (λ (y : PlanError). Unanswered c.args.job.now c.args.settings y) (sym (x ∙ c.in_err-memory.ensures.memory)) tt)

pub returns-in_err-search-clause-answers : goal.returns-in_err-search-clause-answers
returns-in_err-search-clause-answers g c =
    let bs = c.args.job.now in
    let st = c.in_ok-store.ensures in
    let store = c.in_ok-store.store in
    let own : c.as_slice-lists.result.now ≡ (after bs st.0).lists = c.as_slice-lists.ensures.value ∙ st.3 in
    let book = c.book-book.ensures.stands ∙ book_same bs (after bs st.0) c.loaded.result c.deref.result.now c.deref-2.result.now (c.loaded.ensures ∙ st.2) (c.deref.ensures.value ∙ st.4) (c.deref-2.ensures.value ∙ st.5) in
    absurd (open_taken bs store st _ c.as_slice-lists.result.now book own c.in_err-search.field-0.0 c.in_err-search.ensures)

pub sit_on-requires-clause-ready : goal.sit_on-requires-clause-ready
sit_on-requires-clause-ready g c =
    let bs = c.args.job.now in
    let st = c.in_ok-store.ensures in
    let store = c.in_ok-store.store in
    let own : c.as_slice-lists.result.now ≡ (after bs st.0).lists = c.as_slice-lists.ensures.value ∙ st.3 in
    let book = c.book-book.ensures.stands ∙ book_same bs (after bs st.0) c.loaded.result c.deref.result.now c.deref-2.result.now (c.loaded.ensures ∙ st.2) (c.deref.ensures.value ∙ st.4) (c.deref-2.ensures.value ∙ st.5) in
    let new = c.in_ok-memory.ensures in
    new_ready bs store st _ c.as_slice-lists.result.now book own c.in_ok-search.search c.in_ok-search.ensures c.args.settings.allowance c.in_ok-memory.memory new.plan new.rest

pub sit_on-requires-clause-within : goal.sit_on-requires-clause-within
sit_on-requires-clause-within g c =
    opened_within _ _ c.in_ok-search.search c.in_ok-search.ensures c.args.settings c.in_ok-memory.memory c.in_ok-memory.ensures.base c.in_ok-check.ensures

pub returns-in_err-sat-clause-answers : goal.returns-in_err-sat-clause-answers
returns-in_err-sat-clause-answers g c = absurd c.in_err-sat.ensures.sat

pub returns-clause-answers : goal.returns-clause-answers
returns-clause-answers g c =
    let bs = c.args.job.now in
    let st = c.in_ok-store.ensures in
    let store = c.in_ok-store.store in
    let job = after bs st.0 in
    let lists = c.as_slice-lists.result.now in
    let memory = c.in_ok-memory.memory in
    let left = c.sit_on.new.memory in
    let sat = c.in_ok-sat.sat in
    let kept = c.in_ok-sat.ensures.kept in
    let new = c.in_ok-memory.ensures in
    let listed : vec_len store.lists ≡ length job.lists = store.lists.ok.0 ∙ ap length st.3 in
    let groups : vec_len left.plan ≡ length job.lists = kept.plan ∙ new.plan ∙ listed in
    let own : lists ≡ job.lists = c.as_slice-lists.ensures.value ∙ st.3 in
    let long : length (vec_items left.plan) ≡ length lists = sym left.plan.ok.0 ∙ groups ∙ sym (ap length own) in
    let book = c.book-book.ensures.stands ∙ book_same bs job c.loaded.result c.deref.result.now c.deref-2.result.now (c.loaded.ensures ∙ st.2) (c.deref.ensures.value ∙ st.4) (c.deref-2.ensures.value ∙ st.5) in
    let verdict : reached (take (length lists) (vec_items left.plan)) sat ≡ reached (vec_items left.plan) sat =
    ap (λ (xs : List ℕ). reached xs sat) (take_all (length lists) (vec_items left.plan) (omega arith)) in
    let came = came_home _ _ _ (book_of bs job) lists job.lists c.in_ok-search.search c.args.settings _ _ _ _ sat (reached (vec_items left.plan) sat) memory left
    c.in_ok-search.ensures c.in_ok-sat.ensures.sat book own new.base verdict (new.zeros.base ∙ ap (λ (n : ℕ). replicate n 0) new.base) in
    record {
      job = st.0;
      accepts = st.1;
      within = c.in_ok-check.ensures;
      plan = groups;
      branch = kept.branch ∙ new.rest.1 ∙ ap (λ (n : ℕ). 64 * n) listed;
      base = kept.base ∙ new.base;
      came = came.0.0;
      run = came.0.1;
      called = came.0.2;
      law = came.0.3;
      written = came.0.4;
      stands = came.2;
      used = came.1;
    }
