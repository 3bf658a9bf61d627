use Rattle.std.proofs.Common.{◌≡◌, ℕ, ◌<◌, ◌≤◌, ◌-◌, length, get_or, leb, true, false, sym, ◌∙◌, arith, rules, leb-true, leb-false, le-ltb}
use Rattle.std.proofs.lemmas.List.Sorted.{IsPartitionPoint-from_clause, IsPartitionedBy-leb}
use Rattle.unicode_xid.proofs.Halving.{ascend, by_last, by_none}
use Rattle.unicode_xid.proofs.lookup.Goals as goal

pub returns-then-after-gt0 : goal.returns-then-after-gt0
returns-then-after-gt0 c =
    let t = c.args.table.now in
    let k = c.partition_point-after.result in
    let h = IsPartitionPoint-from_clause (λ (r : ℕ × ℕ). leb r.0 c.args.c) t k c.partition_point-after.ensures.partitioned (IsPartitionedBy-leb (λ (r : ℕ × ℕ). r.0) t c.args.c (ascend t 0 c.requires)) (λ a r f' q. search rules) in
    let b = c.partition_point-after.ensures.bound in
    by_last t c.args.c k c.requires (λ l. leb-false _ _ (h.1 k (0, 0) (omega arith) l)) b c.if-after-gt0.true (leb-true _ _ (h.0 (k - 1) (0, 0) (omega arith) (omega arith)))

pub returns-else-after-gt0 : goal.returns-else-after-gt0
returns-else-after-gt0 c =
    let t = c.args.table.now in
    let k = c.partition_point-after.result in
    let h = IsPartitionPoint-from_clause (λ (r : ℕ × ℕ). leb r.0 c.args.c) t k c.partition_point-after.ensures.partitioned (IsPartitionedBy-leb (λ (r : ℕ × ℕ). r.0) t c.args.c (ascend t 0 c.requires)) (λ a r f' q. search rules) in
    le-ltb 0 k c.if-after-gt0.false ∙ by_none t c.args.c c.requires (λ l. leb-false _ _ (h.1 0 (0, 0) (omega arith) l))
