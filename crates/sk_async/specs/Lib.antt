pub mod Completer
