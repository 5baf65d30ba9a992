-- Every public function has a contract that leaves no choice: the proof of each, in its own crate, passed on. Written by
-- tools/all-unique from the sources. Assumes nothing.
use Rattle.tight.specs.Tight.{Tight}
use Rattle.rules.specs.contracts as rules
use Rattle.rules.proofs.Unique as rules-unique
use Rattle.rows.specs.contracts as rows
use Rattle.rows.proofs.Unique as rows-unique
use Rattle.handles.specs.contracts as handles
use Rattle.handles.proofs.Unique as handles-unique
use Rattle.people.specs.contracts as people
use Rattle.people.proofs.Unique as people-unique
use Rattle.terms.specs.contracts as terms
use Rattle.terms.proofs.Unique as terms-unique
use Rattle.ranges.specs.contracts as ranges
use Rattle.ranges.proofs.Unique as ranges-unique
use Rattle.set_up.specs.contracts as set_up
use Rattle.set_up.proofs.Unique as set_up-unique
use Rattle.entries_fit.specs.contracts as entries_fit
use Rattle.entries_fit.proofs.Unique as entries_fit-unique
use Rattle.formed.specs.contracts as formed
use Rattle.formed.proofs.Unique as formed-unique
use Rattle.text.specs.contracts as text
use Rattle.text.proofs.Unique as text-unique
use Rattle.room.specs.contracts as room
use Rattle.room.proofs.Unique as room-unique
use Rattle.beside.specs.contracts as beside
use Rattle.beside.proofs.Unique as beside-unique
use Rattle.commands.specs.contracts as commands
use Rattle.commands.proofs.Unique as commands-unique
use Rattle.messages.specs.contracts as messages
use Rattle.messages.proofs.Unique as messages-unique
use Rattle.steps.specs.contracts as steps
use Rattle.steps.proofs.Unique as steps-unique
use Rattle.session.specs.contracts as session
use Rattle.session.proofs.Unique as session-unique
use Rattle.machine.specs.contracts as machine
use Rattle.machine.proofs.Unique as machine-unique
use Rattle.player.specs.contracts as player
use Rattle.player.proofs.Unique as player-unique
use Rattle.bench_calls.specs.contracts as bench_calls
use Rattle.bench_calls.proofs.Unique as bench_calls-unique

pub rules-KindTryFromU16-try_from : Tight rules.KindTryFromU16.try_from.ended (λ M 𝓤. rules.KindTryFromU16.try_from.clauses)
rules-KindTryFromU16-try_from = rules-unique.KindTryFromU16-try_from

pub rows-most : Tight rows.most.ended (λ M 𝓤. rows.most.clauses)
rows-most = rows-unique.most

pub rows-row_width : Tight rows.row_width.ended (λ M 𝓤. rows.row_width.clauses)
rows-row_width = rows-unique.row_width

pub rows-word : Tight rows.word.ended (λ M 𝓤. rows.word.clauses)
rows-word = rows-unique.word

pub rows-put : Tight rows.put.ended (λ M 𝓤. rows.put.clauses)
rows-put = rows-unique.put

pub rows-write_entry : Tight rows.write_entry.ended (λ M 𝓤. rows.write_entry.clauses)
rows-write_entry = rows-unique.write_entry

pub rows-participants : Tight rows.participants.ended (λ M 𝓤. rows.participants.clauses)
rows-participants = rows-unique.participants

pub rows-mask : Tight rows.mask.ended (λ M 𝓤. rows.mask.clauses)
rows-mask = rows-unique.mask

pub rows-capacity : Tight rows.capacity.ended (λ M 𝓤. rows.capacity.clauses)
rows-capacity = rows-unique.capacity

pub rows-used : Tight rows.used.ended (λ M 𝓤. rows.used.clauses)
rows-used = rows-unique.used

pub rows-kind : Tight rows.kind.ended (λ M 𝓤. rows.kind.clauses)
rows-kind = rows-unique.kind

pub rows-count : Tight rows.count.ended (λ M 𝓤. rows.count.clauses)
rows-count = rows-unique.count

pub rows-first : Tight rows.first.ended (λ M 𝓤. rows.first.clauses)
rows-first = rows-unique.first

pub rows-second : Tight rows.second.ended (λ M 𝓤. rows.second.clauses)
rows-second = rows-unique.second

pub rows-third : Tight rows.third.ended (λ M 𝓤. rows.third.clauses)
rows-third = rows-unique.third

pub rows-length : Tight rows.length.ended (λ M 𝓤. rows.length.clauses)
rows-length = rows-unique.length

pub rows-next_with : Tight rows.next_with.ended (λ M 𝓤. rows.next_with.clauses)
rows-next_with = rows-unique.next_with

pub handles-raised : Tight handles.raised.ended (λ M 𝓤. handles.raised.clauses)
handles-raised = handles-unique.raised

pub handles-handle : Tight handles.handle.ended (λ M 𝓤. handles.handle.clauses)
handles-handle = handles-unique.handle

pub handles-next_handle : Tight handles.next_handle.ended (λ M 𝓤. handles.next_handle.clauses)
handles-next_handle = handles-unique.next_handle

pub handles-holds : Tight handles.holds.ended (λ M 𝓤. handles.holds.clauses)
handles-holds = handles-unique.holds

pub handles-grant : Tight handles.grant.ended (λ M 𝓤. handles.grant.clauses)
handles-grant = handles-unique.grant

pub handles-entry_of : Tight handles.entry_of.ended (λ M 𝓤. handles.entry_of.clauses)
handles-entry_of = handles-unique.entry_of

pub people-in_mask : Tight people.in_mask.ended (λ M 𝓤. people.in_mask.clauses)
people-in_mask = people-unique.in_mask

pub people-is_participant : Tight people.is_participant.ended (λ M 𝓤. people.is_participant.clauses)
people-is_participant = people-unique.is_participant

pub people-honest : Tight people.honest.ended (λ M 𝓤. people.honest.clauses)
people-honest = people-unique.honest

pub terms-create : Tight terms.create.ended (λ M 𝓤. terms.create.clauses)
terms-create = terms-unique.create

pub terms-is_datum_of : Tight terms.is_datum_of.ended (λ M 𝓤. terms.is_datum_of.clauses)
terms-is_datum_of = terms-unique.is_datum_of

pub terms-find_datum : Tight terms.find_datum.ended (λ M 𝓤. terms.find_datum.clauses)
terms-find_datum = terms-unique.find_datum

pub terms-find_list : Tight terms.find_list.ended (λ M 𝓤. terms.find_list.clauses)
terms-find_list = terms-unique.find_list

pub ranges-new_most : Tight ranges.new_most.ended (λ M 𝓤. ranges.new_most.clauses)
ranges-new_most = ranges-unique.new_most

pub ranges-participants_fit : Tight ranges.participants_fit.ended (λ M 𝓤. ranges.participants_fit.clauses)
ranges-participants_fit = ranges-unique.participants_fit

pub ranges-mask_fits : Tight ranges.mask_fits.ended (λ M 𝓤. ranges.mask_fits.clauses)
ranges-mask_fits = ranges-unique.mask_fits

pub ranges-capacity_fits : Tight ranges.capacity_fits.ended (λ M 𝓤. ranges.capacity_fits.clauses)
ranges-capacity_fits = ranges-unique.capacity_fits

pub ranges-holds_public_key : Tight ranges.holds_public_key.ended (λ M 𝓤. ranges.holds_public_key.clauses)
ranges-holds_public_key = ranges-unique.holds_public_key

pub set_up-set_up : Tight set_up.set_up.ended (λ M 𝓤. set_up.set_up.clauses)
set_up-set_up = set_up-unique.set_up

pub entries_fit-entries_fit : Tight entries_fit.entries_fit.ended (λ M 𝓤. entries_fit.entries_fit.clauses)
entries_fit-entries_fit = entries_fit-unique.entries_fit

pub formed-well_formed : Tight formed.well_formed.ended (λ M 𝓤. formed.well_formed.clauses)
formed-well_formed = formed-unique.well_formed

pub text-byte : Tight text.byte.ended (λ M 𝓤. text.byte.clauses)
text-byte = text-unique.byte

pub text-word : Tight text.word.ended (λ M 𝓤. text.word.clauses)
text-word = text-unique.word

pub text-number : Tight text.number.ended (λ M 𝓤. text.number.clauses)
text-number = text-unique.number

pub text-line : Tight text.line.ended (λ M 𝓤. text.line.clauses)
text-line = text-unique.line

pub room-has_room : Tight room.has_room.ended (λ M 𝓤. room.has_room.clauses)
room-has_room = room-unique.has_room

pub room-give : Tight room.give.ended (λ M 𝓤. room.give.clauses)
room-give = room-unique.give

pub room-give_new : Tight room.give_new.ended (λ M 𝓤. room.give_new.clauses)
room-give_new = room-unique.give_new

pub beside-list_is_asked : Tight beside.list_is_asked.ended (λ M 𝓤. beside.list_is_asked.clauses)
beside-list_is_asked = beside-unique.list_is_asked

pub commands-store : Tight commands.store.ended (λ M 𝓤. commands.store.clauses)
commands-store = commands-unique.store

pub commands-nonce : Tight commands.nonce.ended (λ M 𝓤. commands.nonce.clauses)
commands-nonce = commands-unique.nonce

pub commands-list : Tight commands.list.ended (λ M 𝓤. commands.list.clauses)
commands-list = commands-unique.list

pub commands-project : Tight commands.project.ended (λ M 𝓤. commands.project.clauses)
commands-project = commands-unique.project

pub commands-encrypt : Tight commands.encrypt.ended (λ M 𝓤. commands.encrypt.clauses)
commands-encrypt = commands-unique.encrypt

pub commands-decrypt : Tight commands.decrypt.ended (λ M 𝓤. commands.decrypt.clauses)
commands-decrypt = commands-unique.decrypt

pub commands-parse : Tight commands.parse.ended (λ M 𝓤. commands.parse.clauses)
commands-parse = commands-unique.parse

pub messages-read_message : Tight messages.read_message.ended (λ M 𝓤. messages.read_message.clauses)
messages-read_message = messages-unique.read_message

pub steps-start : Tight steps.start.ended (λ M 𝓤. steps.start.clauses)
steps-start = steps-unique.start

pub steps-deliver : Tight steps.deliver.ended (λ M 𝓤. steps.deliver.clauses)
steps-deliver = steps-unique.deliver

pub session-read_record : Tight session.read_record.ended (λ M 𝓤. session.read_record.clauses)
session-read_record = session-unique.read_record

pub session-write_record : Tight session.write_record.ended (λ M 𝓤. session.write_record.clauses)
session-write_record = session-unique.write_record

pub machine-is_set_up : Tight machine.is_set_up.ended (λ M 𝓤. machine.is_set_up.clauses)
machine-is_set_up = machine-unique.is_set_up

pub machine-act : Tight machine.act.ended (λ M 𝓤. machine.act.clauses)
machine-act = machine-unique.act

pub machine-perform : Tight machine.perform.ended (λ M 𝓤. machine.perform.clauses)
machine-perform = machine-unique.perform

pub machine-start : Tight machine.start.ended (λ M 𝓤. machine.start.clauses)
machine-start = machine-unique.start

pub machine-deliver : Tight machine.deliver.ended (λ M 𝓤. machine.deliver.clauses)
machine-deliver = machine-unique.deliver

pub machine-store : Tight machine.store.ended (λ M 𝓤. machine.store.clauses)
machine-store = machine-unique.store

pub machine-nonce : Tight machine.nonce.ended (λ M 𝓤. machine.nonce.clauses)
machine-nonce = machine-unique.nonce

pub machine-list : Tight machine.list.ended (λ M 𝓤. machine.list.clauses)
machine-list = machine-unique.list

pub machine-project : Tight machine.project.ended (λ M 𝓤. machine.project.clauses)
machine-project = machine-unique.project

pub machine-encrypt : Tight machine.encrypt.ended (λ M 𝓤. machine.encrypt.clauses)
machine-encrypt = machine-unique.encrypt

pub machine-decrypt : Tight machine.decrypt.ended (λ M 𝓤. machine.decrypt.clauses)
machine-decrypt = machine-unique.decrypt

pub machine-parse : Tight machine.parse.ended (λ M 𝓤. machine.parse.clauses)
machine-parse = machine-unique.parse

pub player-play : Tight player.play.ended (λ M 𝓤. player.play.clauses)
player-play = player-unique.play

pub bench_calls-bench_play : Tight bench_calls.bench_play.ended (λ M 𝓤. bench_calls.bench_play.clauses)
bench_calls-bench_play = bench_calls-unique.bench_play

pub bench_calls-bench_perform : Tight bench_calls.bench_perform.ended (λ M 𝓤. bench_calls.bench_perform.clauses)
bench_calls-bench_perform = bench_calls-unique.bench_perform
