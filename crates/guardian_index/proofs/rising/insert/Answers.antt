use Rattle.guardian_index.proofs.Numbers.{place_from, there_from, room_for, has_insert, rising_insert, there_again}
use Rattle.guardian_index.proofs.rising.insert.Goals as goal

pub unwrap-requires : goal.unwrap-requires
unwrap-requires c =
    let ns = c.args.objects.now.items in
    let gap = place_from ns c.args.object _ c.requires.rising (rw c.deref.ensures.value at c.binary_search.ensures.position) c.in-Err.at c.in-Err.is in
    c.insert.ensures.succeeds (room_for ns c.args.object c.in-Err.at _ _ gap c.requires.room)

pub returns-in-Err-clause-rising : goal.returns-in-Err-clause-rising
returns-in-Err-clause-rising c =
    let ns = c.args.objects.now.items in
    let gap = place_from ns c.args.object _ c.requires.rising (rw c.deref.ensures.value at c.binary_search.ensures.position) c.in-Err.at c.in-Err.is in
    rw (rw c.unwrap.ensures at c.insert.ensures.items) (rising_insert ns c.args.object c.in-Err.at c.requires.rising gap)

pub returns-in-Err-clause-numbers : goal.returns-in-Err-clause-numbers
returns-in-Err-clause-numbers c = λ n.
    let ns = c.args.objects.now.items in
    let gap = place_from ns c.args.object _ c.requires.rising (rw c.deref.ensures.value at c.binary_search.ensures.position) c.in-Err.at c.in-Err.is in
    rw (rw c.unwrap.ensures at c.insert.ensures.items) (has_insert ns c.args.object c.in-Err.at gap.in_range n)

pub returns-in-Err-clause-capacity : goal.returns-in-Err-clause-capacity
returns-in-Err-clause-capacity c =
    let ns = c.args.objects.now.items in
    let gap = place_from ns c.args.object _ c.requires.rising (rw c.deref.ensures.value at c.binary_search.ensures.position) c.in-Err.at c.in-Err.is in
    (c.insert.ensures.in_place (room_for ns c.args.object c.in-Err.at _ _ gap c.requires.room)).1.0

pub returns-in_default-clause-numbers : goal.returns-in_default-clause-numbers
returns-in_default-clause-numbers c = λ n.
    let ns = c.args.objects.now.items in
    there_again ns c.args.object
    (there_from ns c.args.object _ c.requires.rising (rw c.deref.ensures.value at c.binary_search.ensures.position) c.in_default.field-0 c.in_default.is) n
