-- Each table that has room leaves the answer to the later ones.
use Rattle.std.proofs.lemmas.Result.{err_from_is_err_and}
use Rattle.nine_tables.specs.Room.{room_of, room_behind}
use Rattle.nine_tables.proofs.Laws.{enough, short, last}
use Rattle.nine_tables.proofs.table_room.Goals as goal

pub returns-in_err-room : goal.returns-in_err-room
unfolding room_of room_behind
returns-in_err-room c =
    let p = err_from_is_err_and c.from_residual.result c.from_residual.ensures.1 in
    rw (p.1, p.2) (short _ _ _ _ _ c.in_err-room.ensures)

pub returns-in_err-room-2 : goal.returns-in_err-room-2
unfolding room_of room_behind
returns-in_err-room-2 c =
    let p = err_from_is_err_and c.from_residual-in_err-room-2.result c.from_residual-in_err-room-2.ensures.1 in
    rw (p.1, p.2, enough _ _ _ _ c.in_ok-room.ensures) (short _ _ _ _ _ c.in_err-room-2.ensures)

pub returns-in_err-room-3 : goal.returns-in_err-room-3
unfolding room_of room_behind
returns-in_err-room-3 c =
    let p = err_from_is_err_and c.from_residual-in_err-room-3.result c.from_residual-in_err-room-3.ensures.1 in
    rw (p.1, p.2, enough _ _ _ _ c.in_ok-room.ensures, enough _ _ _ _ c.in_ok-room-2.ensures) (short _ _ _ _ _ c.in_err-room-3.ensures)

pub returns-in_err-room-4 : goal.returns-in_err-room-4
unfolding room_of room_behind
returns-in_err-room-4 c =
    let p = err_from_is_err_and c.from_residual-in_err-room-4.result c.from_residual-in_err-room-4.ensures.1 in
    rw (p.1, p.2, enough _ _ _ _ c.in_ok-room.ensures, enough _ _ _ _ c.in_ok-room-2.ensures, enough _ _ _ _ c.in_ok-room-3.ensures) (short _ _ _ _ _ c.in_err-room-4.ensures)

pub returns-in_err-room-5 : goal.returns-in_err-room-5
unfolding room_of room_behind
returns-in_err-room-5 c =
    let p = err_from_is_err_and c.from_residual-in_err-room-5.result c.from_residual-in_err-room-5.ensures.1 in
    rw (p.1, p.2, enough _ _ _ _ c.in_ok-room.ensures, enough _ _ _ _ c.in_ok-room-2.ensures, enough _ _ _ _ c.in_ok-room-3.ensures, enough _ _ _ _ c.in_ok-room-4.ensures) (short _ _ _ _ _ c.in_err-room-5.ensures)

pub returns-in_err-room-6 : goal.returns-in_err-room-6
unfolding room_of room_behind
returns-in_err-room-6 c =
    let p = err_from_is_err_and c.from_residual-in_err-room-6.result c.from_residual-in_err-room-6.ensures.1 in
    rw (p.1, p.2, enough _ _ _ _ c.in_ok-room.ensures, enough _ _ _ _ c.in_ok-room-2.ensures, enough _ _ _ _ c.in_ok-room-3.ensures, enough _ _ _ _ c.in_ok-room-4.ensures, enough _ _ _ _ c.in_ok-room-5.ensures) (short _ _ _ _ _ c.in_err-room-6.ensures)

pub returns-in_err-room-7 : goal.returns-in_err-room-7
unfolding room_of room_behind
returns-in_err-room-7 c =
    let p = err_from_is_err_and c.from_residual-in_err-room-7.result c.from_residual-in_err-room-7.ensures.1 in
    rw (p.1, p.2, enough _ _ _ _ c.in_ok-room.ensures, enough _ _ _ _ c.in_ok-room-2.ensures, enough _ _ _ _ c.in_ok-room-3.ensures, enough _ _ _ _ c.in_ok-room-4.ensures, enough _ _ _ _ c.in_ok-room-5.ensures, enough _ _ _ _ c.in_ok-room-6.ensures) (short _ _ _ _ _ c.in_err-room-7.ensures)

pub returns-in_err-room-8 : goal.returns-in_err-room-8
unfolding room_of room_behind
returns-in_err-room-8 c =
    let p = err_from_is_err_and c.from_residual-in_err-room-8.result c.from_residual-in_err-room-8.ensures.1 in
    rw (p.1, p.2, enough _ _ _ _ c.in_ok-room.ensures, enough _ _ _ _ c.in_ok-room-2.ensures, enough _ _ _ _ c.in_ok-room-3.ensures, enough _ _ _ _ c.in_ok-room-4.ensures, enough _ _ _ _ c.in_ok-room-5.ensures, enough _ _ _ _ c.in_ok-room-6.ensures, enough _ _ _ _ c.in_ok-room-7.ensures) (short _ _ _ _ _ c.in_err-room-8.ensures)

pub returns : goal.returns
unfolding room_of room_behind
returns c = rw (enough _ _ _ _ c.in_ok-room.ensures, enough _ _ _ _ c.in_ok-room-2.ensures, enough _ _ _ _ c.in_ok-room-3.ensures, enough _ _ _ _ c.in_ok-room-4.ensures, enough _ _ _ _ c.in_ok-room-5.ensures, enough _ _ _ _ c.in_ok-room-6.ensures, enough _ _ _ _ c.in_ok-room-7.ensures, enough _ _ _ _ c.in_ok-room-8.ensures) (last _ _ _ _ c.room-9.ensures)
