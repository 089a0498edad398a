-- `compare_whole`: settings, notes, records.
use mathlib.Core.Path.{sym, ◌∙◌}
use native.Mathlib.Omega.{arith}
use Rattle.compare.proofs.Contents.{note, notes-differ, placed, records-decide, settings-differ}
use Rattle.compare.proofs.Same.{header-same, list-same}
use Rattle.compare.proofs.comparing.compare_whole.Goals as goal

pub returns-then-not-alike : goal.returns-then-not-alike
returns-then-not-alike c =
    let s = c.args in
    settings-differ s.first.now s.second.now s.a.offset s.a.count s.b.offset s.b.count c.get_header.ensures c.get_header-2.ensures
    (c.eq-alike.ensures ∙ header-same c.get_header.result c.get_header-2.result) c.if-not-alike.true

pub returns-then-not-noted : goal.returns-then-not-noted
returns-then-not-noted c =
    let s = c.args in
    notes-differ s.first.now s.second.now s.a.offset s.a.count s.b.offset s.b.count c.get_header.ensures c.get_header-2.ensures
    (c.eq-alike.ensures ∙ header-same c.get_header.result c.get_header-2.result) c.if-not-alike.false
    (c.eq-noted.ensures ∙ list-same (note s.first.now s.a.offset) (note s.second.now s.b.offset)) c.if-not-noted.true

pub compare_records-requires : goal.compare_records-requires
compare_records-requires c =
    let s = c.args in
    let p = placed s.first.now s.second.now s.a.offset s.b.offset (omega arith) (omega arith) (omega arith) (omega arith)
    (sym (list-same (note s.first.now s.a.offset) (note s.second.now s.b.offset)) ∙ sym c.eq-noted.ensures ∙ c.if-not-noted.false) in
    (omega arith, omega arith)

pub returns : goal.returns
returns c =
    let s = c.args in
    let noted = c.eq-noted.ensures ∙ list-same (note s.first.now s.a.offset) (note s.second.now s.b.offset) in
    let p = placed s.first.now s.second.now s.a.offset s.b.offset (omega arith) (omega arith) (omega arith) (omega arith) (sym noted ∙ c.if-not-noted.false) in
    records-decide s.first.now s.second.now s.a.offset s.a.count s.b.offset s.b.count c.get_header.ensures c.get_header-2.ensures
    (c.eq-alike.ensures ∙ header-same c.get_header.result c.get_header-2.result) c.if-not-alike.false noted c.if-not-noted.false p c.compare_records.ensures
