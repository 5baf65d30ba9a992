-- Opens every definition of the rules: a proof by computation names `everything` on its `unfolding` line. Written by tools/opener.
use Rattle.rules.specs.Choice.{all, count, lowest, every, sum_of, same, is_zero}
use Rattle.rules.specs.Table.{this_version, most_of, most, words_for, word, put, with_row, largest, raised, next_handle, set_next_handle, spares_fit, arguments, handle, set_handle, in_mask, is_participant, honest, every_knower}
use Rattle.rules.specs.Terms.{type_of, arguments_of, elements, term_at, longest, datum_length, nonce_length, list_length, ciphertext_length, secret_key_length, public_key_length, length_of, secret_key_of, public_key_of, new_entry, numbers_of, add_entry, create, is_datum_of, find_datum, is_list_of, find_list, is_nonce_of}
use Rattle.rules.specs.Handles.{holds, held, grant, grant_each, names, entry_of, holds_handle}
use Rattle.rules.specs.SetUp.{participants_fit, mask_fits, capacity_fits, set_up_fits, holds_secret_key, holds_public_key, new_head, empty_table, grant_named, add_keys, add_all_keys, set_up_table}
use Rattle.rules.specs.WellFormed.{run_is_long, head_fits, used_fits, held_as_named, is_secret_key_of, is_public_key_of, keys_fit, is_later_type, type_fits, count_of, count_fits, unused_are_zero, nonce_fits, is_earlier, may_be_element, list_fits, is_key_place, ciphertext_fits, length_fits, entry_fits, may_hold, handle_is_below, handles_fit, well_formed}
use Rattle.rules.specs.Outcome.{need, is_short, need_room, gives_handle}
use Rattle.rules.specs.Commands.{give_new, give_found_or_new, store, new_nonce, list_is_asked, may_be_listed, make_list_of, make_list, is_place, project_of, project, encrypt_of, encrypt, decrypt_of, decrypt, value_of, parse_of, parse}
use Rattle.rules.specs.Steps.{may_act, make, make_unless, unless_found, sealed_lengths, send, named_length, named_lengths, send_named, start, read_one, read_two, read_more, read_list, is_for, read_message, opened, answer_first, alone_length, answer_second, answer_message, deliver_list, deliver}
use Rattle.rules.specs.Machine.{act, step, set_up, perform, untested, run, table_after}
use Rattle.rules.specs.Session.{file_version, longest_file, file_fits, number, two_bytes, body_length, body_lengths, is_within, record_of, body_number, read_body, read_record, stands_right, items_by, items_from, items_of, requests_in, kind_of, values_of, bytes_of, record_bytes, has_record, write_record}
use Rattle.rules.specs.Player.{ascii, digits, decimal, word_of, spaced, line_of, lines_from, players_table, answers_to, played, most_bytes, onto_first, cut_lines}
use Rattle.rules.specs.Calls.{too_short, play_into, four_numbers, performs, perform_read, perform_into}
use Rattle.rules.specs.Meaning.{said, found_at, or_nothing, beside_at, asked}
use Rattle.rules.specs.Handshake.{term_in, turns_by}
use Rattle.rules.specs.Cases.{nines, fresh, two_key_rows, two_keys, each_type, long_terms, honest_run, starred, more, set_ups, spoilt, harmless, spoils, sessions, cases, answers, same_answers, names_from, holdings, changed_by, written_numbers, is_right, all_right}

unfoldable pub everything : Unit {0}
unfolding all count lowest every sum_of same is_zero this_version most_of most words_for word put with_row largest raised next_handle set_next_handle spares_fit arguments handle set_handle in_mask is_participant honest every_knower type_of arguments_of elements term_at longest datum_length nonce_length list_length ciphertext_length secret_key_length public_key_length length_of secret_key_of public_key_of new_entry numbers_of add_entry create is_datum_of find_datum is_list_of find_list is_nonce_of holds held grant grant_each names entry_of holds_handle participants_fit mask_fits capacity_fits set_up_fits holds_secret_key holds_public_key new_head empty_table grant_named add_keys add_all_keys set_up_table run_is_long head_fits used_fits held_as_named is_secret_key_of is_public_key_of keys_fit is_later_type type_fits count_of count_fits unused_are_zero nonce_fits is_earlier may_be_element list_fits is_key_place ciphertext_fits length_fits entry_fits may_hold handle_is_below handles_fit well_formed need is_short need_room gives_handle give_new give_found_or_new store new_nonce list_is_asked may_be_listed make_list_of make_list is_place project_of project encrypt_of encrypt decrypt_of decrypt value_of parse_of parse may_act make make_unless unless_found sealed_lengths send named_length named_lengths send_named start read_one read_two read_more read_list is_for read_message opened answer_first alone_length answer_second answer_message deliver_list deliver act step set_up perform untested run table_after file_version longest_file file_fits number two_bytes body_length body_lengths is_within record_of body_number read_body read_record stands_right items_by items_from items_of requests_in kind_of values_of bytes_of record_bytes has_record write_record ascii digits decimal word_of spaced line_of lines_from players_table answers_to played most_bytes onto_first cut_lines too_short play_into four_numbers performs perform_read perform_into said found_at or_nothing beside_at asked term_in turns_by nines fresh two_key_rows two_keys each_type long_terms honest_run starred more set_ups spoilt harmless spoils sessions cases answers same_answers names_from holdings changed_by written_numbers is_right all_right
everything = tt
