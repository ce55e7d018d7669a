-- An accepted file with its groups spelled out is read as the same instance, wherever as many groups are allowed.
use Prim.Native.Nat.{ℕ, ◌+◌, ◌-◌, ◌≤◌}
use mathlib.Core.Path.{◌≡◌, ap, ◌∙◌}
use mathlib.Core.List.{List, ◌++◌}
use native.Mathlib.Omega.{arith}
use lib.ListN.{length, take, drop, length-drop}
use lib.Seq.{take_all}
use Rattle.scope.specs.Parsed.{got}
use Rattle.scope.specs.Number.{listed}
use Rattle.scope.specs.Instance.{Instance, event_at, file_up_to}
use Rattle.scope.specs.SpelledOut.{bytes_from}
use Rattle.parsing.proofs.laws.Parsing.{repeat-length}
use Rattle.spelled_out.proofs.laws.Local.{bytes-join, local-repeat, local-limited}
use Rattle.spelled_out.proofs.laws.Parts.{local-listed, local-event, local-sizes, local_constraints}
use Rattle.parsing.proofs.laws.Calendar.{times-got, windows-after}
use Rattle.spelled_out.proofs.laws.Pieces.{Pieces, made_of}
use Rattle.spelled_out.proofs.laws.Whole.{made_read, all-groups, few-groups}

-- the file that an accepted file's pieces make, where as many groups are allowed
pub spelled-read : (file : List ℕ) (i : Instance) (p : Pieces 1024 file i) (most : ℕ) → length i.groups ≤ most
    → file_up_to most (made_of p) ≡ got i (length (made_of p))
spelled-read file i p most few =
    let T = p.t.count in
    let t = times-got file p.times in
    let sizes = local-sizes.span file p.a t.inside p.sizes in
    let events = (local-repeat p.n.0 (event_at T p.n.1) (local-event T p.n.1)).span file p.b sizes.inside p.events in
    let count = (local-limited 0 1024).span file p.c events.inside p.count in
    let groups = (local-repeat p.G (listed T) (local-listed T)).span file p.d count.inside p.groups in
    let windows = windows-after p.t.days T file p.e t.periods p.windows in
    let constraints =
    (local_constraints T p.n.1 p.es (p.gs ++ p.ws)).span file p.f (windows.inside groups.inside) p.constraints in
    let many = repeat-length p.G (listed T file) p.d p.groups in
    let rest : take (p.last - p.f) (drop p.f file) ≡ drop p.f file =
    take_all (p.last - p.f) (drop p.f file) (rw length-drop (omega (arith, p.through))) in
    made_read most T p.n p.es p.gs p.ws p.cs
    (bytes_from p.a p.b file) (bytes_from p.b p.c file) (bytes_from p.d p.e file) (drop p.f file)
    t.low t.high (omega (arith, all-groups file i p)) (omega (arith, all-groups file i p, few-groups file i p))
    sizes.reads events.reads (rw many groups.reads) windows.each (rw rest at constraints.reads)
    (made_of p) (rw (bytes-join p.a p.b p.c file sizes.ahead events.ahead))
    ∙ ap (λ (i : Instance). got i (length (made_of p))) p.whole
