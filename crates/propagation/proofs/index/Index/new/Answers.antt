use Rattle.std.proofs.Common.{[], refl, arith}
use Rattle.propagation.specs.Chains.{Below}
use Rattle.propagation.specs.Indexed.{At}
use Rattle.propagation.proofs.Chaining.{nones, zeros, chains_none}
use Rattle.propagation.proofs.index.Index.new.Goals as goal

pub returns-clause-known : goal.returns-clause-known
returns-clause-known c = record {
  whole = refl;
  indexed = record {
    chains = chains_none (Below (At []) 0) _ _ (λ v p r. absurd (omega (arith, r.1))) (λ v. nones 12800 v);
    starts = λ v p l. absurd (omega arith);
  };
}

pub returns-clause-heads : goal.returns-clause-heads
returns-clause-heads c = nones 12800

pub returns-clause-links : goal.returns-clause-links
returns-clause-links c = nones 65536

pub returns-clause-starts : goal.returns-clause-starts
returns-clause-starts c = zeros 65536
